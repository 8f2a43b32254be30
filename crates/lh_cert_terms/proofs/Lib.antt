pub mod Reading
pub mod Remaking
pub mod Pairs
