pub mod Lines
pub mod Raw
