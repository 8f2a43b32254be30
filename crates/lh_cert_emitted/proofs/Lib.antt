pub mod ArgumentsKnown
pub mod SaysState
pub mod SaysNeeds
pub mod SaysRows
pub mod Said
