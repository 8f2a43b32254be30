pub mod Ranges
pub mod Units
pub mod Operands
pub mod Laws
pub mod Finding
