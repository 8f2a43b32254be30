pub mod Queued
pub mod Holds
pub mod Buckets
pub mod Line
pub mod Stored
pub mod Places
pub mod Laws
