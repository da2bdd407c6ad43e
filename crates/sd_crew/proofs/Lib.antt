pub mod Stages
pub mod Alike
pub mod Going
pub mod Sharing
pub mod Placed
pub mod Works
pub mod Items
pub mod Crossing
