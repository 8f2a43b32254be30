pub mod FaultOf
pub mod Steps
pub mod Places
pub mod Mentions
pub mod Placing
pub mod InOrder
pub mod Building
pub mod Reading
