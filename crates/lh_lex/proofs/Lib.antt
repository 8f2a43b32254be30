pub mod Classes
pub mod Joined
pub mod TokenFronts
pub mod ToBad
mod Rows
