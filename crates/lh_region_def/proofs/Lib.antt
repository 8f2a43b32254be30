pub mod MergedValues
pub mod Sites
pub mod PartReads
pub mod Operations
pub mod Labels
pub mod KnowledgeChanges
pub mod Edges
pub mod PartsNamed
pub mod JoinedKnowledge
pub mod Phis
pub mod Steps
pub mod LineEffects
pub mod BlockLines
pub mod BlockExecution
pub mod LiveEdges
pub mod BlockLeaves
pub mod Blocks
pub mod Ordered
pub mod Courses
pub mod Walk
pub mod Heads
pub mod Start
pub mod Activations
pub mod Second
pub mod Adjacent
mod SampleRows
mod Solved
