pub mod Members
pub mod Shown
pub mod Builtin
pub mod Scripted
