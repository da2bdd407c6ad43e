pub mod Agreeing
pub mod Reaching
pub mod Merging
pub mod Fusing
pub mod Endings
