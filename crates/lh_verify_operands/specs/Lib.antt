pub mod Leading
pub mod Uses
pub mod Operands
