pub mod Plain
pub mod Yields
pub mod Exits
pub mod Components
