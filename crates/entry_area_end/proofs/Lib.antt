pub mod HeaderLayout
pub mod Reading
pub mod Writing
pub mod Relations
