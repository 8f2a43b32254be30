pub mod Grouped
pub mod Runs
pub mod Over
