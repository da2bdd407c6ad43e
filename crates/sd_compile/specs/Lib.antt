pub mod Jumps
pub mod Reach
