pub mod Exits
pub mod Time
pub mod Included
pub mod Relations
