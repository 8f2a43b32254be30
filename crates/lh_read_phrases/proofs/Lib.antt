pub mod Apart
pub mod SpelledWords
pub mod SpelledOperands
pub mod SpelledEach
pub mod SpelledOperations
pub mod OperandLists
pub mod SpelledBrackets
pub mod Fields
