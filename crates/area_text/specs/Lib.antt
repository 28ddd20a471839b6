pub mod AreaText
