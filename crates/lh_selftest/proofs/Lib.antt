pub mod MissingTop
pub mod Tops
pub mod UnitCounts
pub mod Courses
pub mod Answer
pub mod Whole
