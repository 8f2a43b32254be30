pub mod Flags
pub mod Packed
pub mod Laws
pub mod MostlyOne
pub mod Writes
