pub mod States
pub mod Acts
pub mod Runs
pub mod Laws
