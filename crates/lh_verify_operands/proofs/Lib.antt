pub mod Lists
pub mod UsesText
pub mod UsesValues
pub mod UsesWithin
