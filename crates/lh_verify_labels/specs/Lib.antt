pub mod Marking
pub mod Turns
