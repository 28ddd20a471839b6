pub mod Buffer
pub mod HexSteps
pub mod DecimalPrinted
pub mod Written
pub mod Joined
pub mod HexAnswers
pub mod Back
pub mod OneByte
