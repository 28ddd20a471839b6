pub mod BigEndian
pub mod Tags
pub mod Number
pub mod Standalone
pub mod Exits
pub mod Relations
