pub mod Area
pub mod Records
pub mod Relations
pub mod inside
