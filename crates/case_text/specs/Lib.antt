pub mod Limits
pub mod Bytes
pub mod Texts
pub mod Fields
pub mod Asking
pub mod Records
pub mod Answers
