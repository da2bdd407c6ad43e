pub mod Standing
pub mod Begun
pub mod Evaluated
