pub mod Standing
pub mod Taking
pub mod States
pub mod Laws
pub mod Steady
pub mod Sound
