pub mod Members
pub mod Formed
pub mod Tidy
pub mod Activates
pub mod Recursion
