pub mod Marks
pub mod Tagged
