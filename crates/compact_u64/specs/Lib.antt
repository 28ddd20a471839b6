pub mod BigEndian
pub mod Number
pub mod Laws
pub mod Answers
