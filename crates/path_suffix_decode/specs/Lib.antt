pub mod After
pub mod inside
