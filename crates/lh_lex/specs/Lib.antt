pub mod Faults
pub mod Front
