pub mod Report
pub mod Lowering
pub mod Kept
pub mod Steps
pub mod Modules
pub mod Worked
pub mod Loops
