pub mod SelfTest
pub mod Counted
pub mod Courses
pub mod Answer
