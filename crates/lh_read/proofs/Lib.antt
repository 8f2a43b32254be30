pub mod LastUnit
pub mod FirstLines
pub mod StepAnswers
pub mod SpelledTokens
pub mod Texts
pub mod Computed
mod Rows
pub mod Progress
pub mod PlaceLaws
pub mod EntryLaws
pub mod NamedEntries
pub mod Lists
pub mod Args
pub mod Headers
pub mod AddedItems
