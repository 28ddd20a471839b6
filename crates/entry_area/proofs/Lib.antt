pub mod Id
pub mod Entry
pub mod Records
pub mod Writing
pub mod DecodeExits
pub mod Relations
pub mod Orders
