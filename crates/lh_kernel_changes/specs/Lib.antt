pub mod Touched
pub mod Shown
pub mod Laws
