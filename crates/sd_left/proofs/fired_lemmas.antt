pub mod Comes
pub mod Parts
pub mod Owners
pub mod Takes
pub mod Transitions
pub mod Nowhere
pub mod Kept
