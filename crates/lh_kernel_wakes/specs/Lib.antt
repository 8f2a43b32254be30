pub mod Rising
pub mod Sensed
pub mod Waking
