pub mod Changing
pub mod Fitting
pub mod Named
pub mod Kept
pub mod Copying
pub mod Putting
