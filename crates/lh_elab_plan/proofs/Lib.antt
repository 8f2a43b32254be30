pub mod MovedParts
pub mod StaticSteps
pub mod PlanSteps
pub mod ChildSteps
