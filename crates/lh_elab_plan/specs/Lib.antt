pub mod Statics
pub mod Plans
