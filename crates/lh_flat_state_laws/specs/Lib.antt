pub mod Acts
pub mod Formed
pub mod Lasting
pub mod Padding
