pub mod states
pub mod StatePaths
pub mod StateTests
pub mod StateFusion
