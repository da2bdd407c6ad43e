pub mod Follows
pub mod Standing
pub mod Passed
pub mod CallsDo
pub mod Extents
pub mod Called
