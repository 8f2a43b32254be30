pub mod Outcomes
pub mod Lowers
