pub mod Names
pub mod KeptRows
pub mod RowsAgree
pub mod Headers
pub mod Causes
pub mod Laws
pub mod Worked
