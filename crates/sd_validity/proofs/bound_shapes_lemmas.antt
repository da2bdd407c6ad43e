pub mod Extents
pub mod Moved
