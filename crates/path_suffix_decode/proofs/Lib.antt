pub mod Exits
pub mod Into
pub mod Within
