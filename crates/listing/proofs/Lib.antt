pub mod Answering
pub mod Stream
pub mod Paths
