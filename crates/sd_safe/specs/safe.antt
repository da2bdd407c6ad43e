pub mod Reached
pub mod Standing
