pub mod Bound
pub mod Sources
pub mod Texts
