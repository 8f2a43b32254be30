pub mod Orders
pub mod Instants
pub mod Claims
pub mod Greatest
pub mod DueBits
pub mod Frames
