pub mod Everywhere
pub mod Agreed
pub mod Found
pub mod Gating
pub mod Bits
pub mod Wording
