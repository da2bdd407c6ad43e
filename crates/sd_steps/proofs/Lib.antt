pub mod Chains
pub mod Paths
pub mod Listed
pub mod More
