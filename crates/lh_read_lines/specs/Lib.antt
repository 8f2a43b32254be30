pub mod SpelledBy
pub mod Insts
pub mod Headers
pub mod Items
