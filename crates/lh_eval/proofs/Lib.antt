pub mod Lists
pub mod GivingText
pub mod HeldByIds
pub mod PartsRead
pub mod TypesMade
pub mod ValuesFit
pub mod GivesFit
pub mod BeginSteps
pub mod DriveWishes
pub mod Chosen
pub mod Integers
pub mod Fields
mod DataIn
