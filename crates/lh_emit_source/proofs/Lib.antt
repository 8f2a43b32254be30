pub mod WaysBack
pub mod FirstSteps
pub mod Along
pub mod Named
pub mod Routes
