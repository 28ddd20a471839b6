pub mod Entry
pub mod Records
pub mod inside
