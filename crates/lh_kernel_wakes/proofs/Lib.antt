pub mod Places
pub mod IndexEntries
pub mod WakeOrder
pub mod GatheredNumbers
