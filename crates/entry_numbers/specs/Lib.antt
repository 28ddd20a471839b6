pub mod Header
pub mod Numbers
pub mod inside
