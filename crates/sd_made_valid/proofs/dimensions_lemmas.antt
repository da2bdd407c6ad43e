pub mod Ports
pub mod Linked
pub mod Positive
pub mod Fits
pub mod Subsets
