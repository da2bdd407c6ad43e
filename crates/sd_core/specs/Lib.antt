pub mod Kept
pub mod Stepped
pub mod Traced
pub mod Interleaving
pub mod Released
pub mod release
