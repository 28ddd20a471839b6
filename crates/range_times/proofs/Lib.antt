pub mod HeaderLayout
pub mod Times
pub mod Yields
