pub mod Steps
pub mod Resolving
