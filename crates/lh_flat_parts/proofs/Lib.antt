pub mod Tables
pub mod StepPaths
pub mod Resolved
