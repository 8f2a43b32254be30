pub mod Routes
pub mod Questions
pub mod Words
pub mod Searches
pub mod Groups
pub mod Laws
pub mod TopsOf
pub mod Sound
