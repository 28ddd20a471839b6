pub mod Range
pub mod Area
pub mod Record
pub mod Answers
