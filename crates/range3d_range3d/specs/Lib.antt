pub mod Range
pub mod Records
pub mod inside
