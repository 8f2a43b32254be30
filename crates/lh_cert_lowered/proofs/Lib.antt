pub mod SameHeaders
pub mod RowsWithThemselves
pub mod Lowered
