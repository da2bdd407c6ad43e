pub mod Items
pub mod Zips
