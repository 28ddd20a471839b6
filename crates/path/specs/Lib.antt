pub mod Limits
pub mod Record
pub mod Flat
pub mod Puts
pub mod Prefix
pub mod Builder
pub mod Answers
pub mod inside
