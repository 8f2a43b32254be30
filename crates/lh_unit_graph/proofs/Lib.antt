pub mod MeasureSums
pub mod SearchState
pub mod SearchSteps
