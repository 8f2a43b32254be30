pub mod ArgNames
pub mod Flats
pub mod OfModule
pub mod Outcomes
pub mod Lowerings
pub mod LoweredItems
pub mod ReportRows
pub mod Whole
