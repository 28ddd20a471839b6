pub mod Difference
pub mod inside
