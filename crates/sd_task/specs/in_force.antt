pub mod Names
pub mod Ranges
pub mod Subsets
pub mod Stack
pub mod Exact
pub mod SmallExtents
