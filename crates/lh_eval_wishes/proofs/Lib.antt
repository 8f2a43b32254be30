pub mod Splice
pub mod RunLemmas
pub mod GroupSteps
pub mod Over
pub mod OverlaySteps
