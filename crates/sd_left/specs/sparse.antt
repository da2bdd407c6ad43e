pub mod Point
pub mod Stretch
pub mod Terms
