pub mod Box
pub mod Finding
pub mod Flat
pub mod Seen
pub mod Viewed
pub mod Windows
