pub mod PathText
pub mod Laws
pub mod inside
