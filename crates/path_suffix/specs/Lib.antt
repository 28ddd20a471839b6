pub mod Header
pub mod Suffix
pub mod inside
