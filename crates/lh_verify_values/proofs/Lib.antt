pub mod KnowingSteps
pub mod TypeNumbers
pub mod ParamSteps
pub mod ScopeParts
pub mod MadeTypes
