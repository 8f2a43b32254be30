pub mod Claims
pub mod Greatest
pub mod Frames
