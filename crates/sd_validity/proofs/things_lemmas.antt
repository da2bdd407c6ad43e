pub mod Times
pub mod Paths
pub mod Within
pub mod Walked
