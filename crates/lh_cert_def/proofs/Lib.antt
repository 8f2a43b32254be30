pub mod OneAnswer
pub mod Worked
