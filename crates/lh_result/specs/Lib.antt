pub mod Called
pub mod Simulated
pub mod Result
pub mod StatusLines
pub mod Account
pub mod Steps
pub mod Written
