pub mod InstanceStates
pub mod Sound
