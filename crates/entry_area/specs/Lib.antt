pub mod Entry
pub mod Records
pub mod Relations
pub mod inside
