pub mod Measures
pub mod Searches
