pub mod Names
pub mod NameBytes
pub mod UnitNames
pub mod Distinct
pub mod NameTables
