pub mod Interface
pub mod Tagged
