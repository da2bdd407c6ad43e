pub mod SafePools
pub mod Reordered
