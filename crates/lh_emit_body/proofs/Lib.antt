pub mod AddedLines
pub mod TakenNames
