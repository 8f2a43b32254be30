pub mod Above
pub mod Asked
pub mod Keepers
pub mod Keeping
pub mod Lacking
