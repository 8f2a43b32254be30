pub mod Graph
pub mod Measures
pub mod Refusals
pub mod Builds
pub mod Elaborates
pub mod Answer
pub mod Probed
pub mod Climbing
