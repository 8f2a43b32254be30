pub mod Both
pub mod Leaving
pub mod Lines
pub mod Merges
pub mod Named
pub mod Turns
pub mod Walked
