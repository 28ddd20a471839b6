pub mod Typed
pub mod Record
pub mod Compare
pub mod Values
pub mod Heads
