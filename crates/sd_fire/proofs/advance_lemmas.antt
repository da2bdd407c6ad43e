pub mod Runs
pub mod GoingOn
pub mod Takings
