pub mod Members
mod SoundCopies
pub mod Cuts
mod CopyPieces
mod Lines
mod Paths
mod Named
mod Splits
mod There
mod Phis
pub mod Facts
mod OpenedCalls
pub mod CopyPaths
mod Control
mod FlatTypes
mod Soundness
mod Predecessors
mod OperandKinds
mod Labels
mod BlockEnds
mod LineTargets
pub mod FlatForm
mod Results
mod ResultTypes
pub mod WellFormedResults
mod BlocksFound
mod HeldValues
mod LastPieces
mod TopTypes
mod Alike
mod CopyPoints
mod CopiedSteps
mod CallSteps
mod ReturnSteps
pub mod FlatActivations
pub mod TidyUnits
mod ActivationRows
mod CallSearch
