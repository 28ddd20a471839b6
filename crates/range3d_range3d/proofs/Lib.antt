pub mod Range
pub mod Records
pub mod DecodeExits
pub mod Writing
pub mod Orders
