pub mod LexedTokens
mod LexRows
mod CanonRows
pub mod RenderedPieces
pub mod Lists
pub mod ValueDefinitions
pub mod Tables
mod NameEntries
pub mod Within
pub mod Arenas
pub mod Texts
pub mod Defined
pub mod ContentsLemmas
pub mod BuilderLemmas
pub mod ItemLemmas
pub mod Writes
pub mod ModuleLaws
pub mod ById
pub mod ByIdInsts
pub mod DefinitionsGive
pub mod ByIdPlaces
pub mod PlacedIds
pub mod Seen
