pub mod Filled
pub mod TouchedSignals
pub mod Same
pub mod Shows
pub mod Undone
