pub mod Places
pub mod Sizes
pub mod KeptLemmas
pub mod Acts
pub mod Members
pub mod Counts
pub mod Told
