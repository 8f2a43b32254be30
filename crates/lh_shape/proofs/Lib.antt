mod Samples
pub mod PartsRead
pub mod MergedDriveLaws
pub mod Alike
pub mod Merged
pub mod RegisterShapes
