pub mod HeaderLayout
pub mod Reading
