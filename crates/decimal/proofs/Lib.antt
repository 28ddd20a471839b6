pub mod DecimalSteps
