pub mod Paths
pub mod Records
pub mod inside
