pub mod Bits
pub mod KeptWords
pub mod SpreadWords
pub mod SearchState
pub mod RouteWords
pub mod LackingBits
pub mod EveryRoute
pub mod Above
