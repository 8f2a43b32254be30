pub mod Activations
pub mod Values
pub mod Replacing
pub mod Wishes
pub mod Frames
pub mod Paths
pub mod FirstFault
pub mod Probes
