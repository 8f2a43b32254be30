pub mod OrderLemmas
pub mod DueLemmas
