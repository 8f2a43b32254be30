pub mod ItemLines
pub mod Printable
pub mod Laws
