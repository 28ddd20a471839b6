pub mod Record
pub mod Facts
pub mod Made
pub mod Heads
pub mod Typed
