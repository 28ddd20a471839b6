pub mod Header
pub mod Components
pub mod Suffix
pub mod Yields
pub mod Writing
pub mod Orders
pub mod Relations
