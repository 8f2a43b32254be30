pub mod MarkingSteps
pub mod ProbeTurns
