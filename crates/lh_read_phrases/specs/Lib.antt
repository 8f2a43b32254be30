pub mod SyntaxOf
pub mod Words
pub mod Operands
pub mod Shorter
pub mod Operations
