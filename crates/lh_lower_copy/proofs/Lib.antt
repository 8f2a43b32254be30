mod Opened
mod NamesById
pub mod Rests
mod Once
mod Texts
pub mod Copies
mod Bodies
pub mod Singly
