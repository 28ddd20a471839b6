pub mod Paths
pub mod DecodeExits
pub mod Writing
