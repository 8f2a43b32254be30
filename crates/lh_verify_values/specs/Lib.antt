pub mod Digest
pub mod FactsOfUnit
pub mod Numbers
pub mod Facts
pub mod Given
pub mod Rows
