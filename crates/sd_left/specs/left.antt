pub use Rattle.sd_left.specs.tree.Standing
pub mod Kept
pub mod Waits
pub mod Telling
pub mod Tells
pub mod Changed
