pub mod Found
pub mod Pieces
pub mod Numbers
pub mod Times
pub mod Types
pub mod Shorter
pub mod LexemeOf
