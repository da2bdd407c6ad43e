pub mod Tasklets
pub mod Point
