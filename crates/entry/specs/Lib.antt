pub mod Entry
pub mod Record
pub mod Answers
