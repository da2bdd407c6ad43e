pub mod Entered
pub mod Right
