pub mod Standing
pub mod State
pub mod Registers
pub mod Quiet
pub mod TriggerBits
pub mod Resting
