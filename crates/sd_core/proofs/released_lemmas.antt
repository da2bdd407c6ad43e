pub mod Moves
pub mod Fires
pub mod Settles
pub mod Runs
