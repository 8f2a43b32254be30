pub mod Links
pub mod Pieces
