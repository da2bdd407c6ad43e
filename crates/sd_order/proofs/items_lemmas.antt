pub mod Meeting
pub mod Leading
pub mod Places
pub mod Putting
pub mod Telling
