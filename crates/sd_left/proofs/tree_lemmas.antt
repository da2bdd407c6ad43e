pub mod Begins
pub mod Changes
pub mod Moves
pub mod Nowhere
pub mod Runs
pub mod Points
pub mod Sequence
