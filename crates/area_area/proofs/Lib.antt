pub mod Subspace
pub mod Area
pub mod Records
pub mod DecodeExits
pub mod Writing
pub mod Relations
pub mod Orders
pub mod Yields
