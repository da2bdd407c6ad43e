pub mod Writes
pub mod Apart
