pub mod Lines
pub mod Fitting
pub mod Keeping
pub mod Stream
pub mod Answering
pub mod Draining
