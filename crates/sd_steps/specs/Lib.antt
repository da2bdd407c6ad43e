pub mod Chained
pub mod Matched
pub mod StepText
