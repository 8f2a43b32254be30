pub mod Conditions
pub mod EdgeJoins
pub mod Selectors
pub mod Merged
