pub mod Tasks
pub mod Counts
pub mod Stretches
pub mod Ways
pub mod Shown
pub mod Firsts
pub mod Placed
