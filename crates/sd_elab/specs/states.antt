pub mod Exits
pub mod Standing
pub mod States
pub mod Threaded
pub mod BuildingOf
