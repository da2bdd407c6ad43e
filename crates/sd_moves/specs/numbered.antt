pub mod Counts
pub mod Places
pub mod PartsChanged
pub mod Gone
pub mod OpenPools
