pub mod Bodies
pub mod Fresh
pub mod Lines
