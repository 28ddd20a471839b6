pub mod RawSteps
