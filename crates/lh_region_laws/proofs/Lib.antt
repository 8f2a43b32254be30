pub mod Trees
pub mod Leaves
pub mod Known
pub mod Rows
pub mod Regions
pub mod Second
