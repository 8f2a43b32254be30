pub mod Delays
pub mod Same
pub mod One
