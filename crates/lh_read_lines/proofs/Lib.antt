pub mod SpelledInsts
pub mod InstsAgain
pub mod SpelledHeaders
pub mod SpelledItems
