pub mod Way
pub mod Walk
pub mod Composition
