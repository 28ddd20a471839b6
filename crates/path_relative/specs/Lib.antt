pub mod Against
pub mod Extension
pub mod Records
pub mod inside
