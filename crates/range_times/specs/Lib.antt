pub mod Header
pub mod Times
pub mod inside
