pub mod Agreeing
pub mod Laws
pub mod Gates
pub mod Worked
