pub mod Options
pub mod OptionsFound
pub mod WatchTitles
pub mod Digits
pub mod Forms
