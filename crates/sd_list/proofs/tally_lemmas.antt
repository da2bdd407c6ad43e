pub mod Sums
pub mod Putting
pub mod Finding
