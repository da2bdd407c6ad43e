pub mod Closing
pub mod StepFold
pub mod Judging
pub mod Continuing
