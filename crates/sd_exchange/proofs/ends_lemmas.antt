pub mod Shown
pub mod Nesting
pub mod Permuting
pub mod Tiling
