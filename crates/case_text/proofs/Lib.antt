pub mod Puts
pub mod HexFields
