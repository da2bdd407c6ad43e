pub mod Begins
pub mod Counts
pub mod Fires
