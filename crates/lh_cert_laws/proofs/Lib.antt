pub mod DriveWishes
pub mod EntityRows
pub mod KeptRegisters
pub mod AgreedRegisters
pub mod Edges
pub mod UnitStands
pub mod Headers
pub mod CertifiedTrace
