pub mod HeaderLayout
