pub mod Range3d
pub mod Record
pub mod Answers
pub mod inside
