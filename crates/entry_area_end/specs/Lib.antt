pub mod Header
pub mod End
pub mod inside
