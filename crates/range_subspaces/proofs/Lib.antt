pub mod Subspaces
pub mod Yields
pub mod Writing
