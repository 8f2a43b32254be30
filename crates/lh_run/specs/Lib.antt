pub use Rattle.lh_result.specs.Called
pub use Rattle.lh_result.specs.Simulated
pub use Rattle.lh_result.specs.Result
pub use Rattle.lh_result.specs.StatusLines
pub use Rattle.lh_result.specs.Account
pub use Rattle.lh_result.specs.Steps
pub use Rattle.lh_result.specs.Written
pub mod Faithful
