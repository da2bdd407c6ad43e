pub mod Words
pub mod Reading
pub mod Parting
pub mod Paths
pub mod Sizes
pub mod Lines
