pub mod Operands
pub mod Signs
pub mod Laws
pub mod Vectors
