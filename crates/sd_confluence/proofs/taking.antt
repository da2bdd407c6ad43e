pub mod StreamCounts
pub mod Told
pub mod RunCounts
pub mod TakesTouched
pub mod Counting
pub mod OneState
pub mod TakingOrder
