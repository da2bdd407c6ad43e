pub mod Kept
pub mod NextMoves
pub mod Comes
pub mod Halting
pub mod Weights
pub mod Quiet
pub mod Falls
pub mod HaltingPools
