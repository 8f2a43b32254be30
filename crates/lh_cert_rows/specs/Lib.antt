pub mod Rows
pub mod Reading
pub mod Means
pub mod Laws
pub mod Passing
pub mod Worked
