pub mod Reading
pub mod Printing
pub mod Back
pub mod Cases
