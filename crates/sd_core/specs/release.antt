pub mod Finished
pub mod Changed
