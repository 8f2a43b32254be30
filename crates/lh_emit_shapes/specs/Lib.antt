pub mod Bodies
pub mod Putting
