pub mod Words
pub mod Chain
pub mod Worked
pub mod Laws
