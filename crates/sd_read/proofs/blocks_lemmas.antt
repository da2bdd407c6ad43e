pub mod Filled
pub mod Passed
pub mod Steps
pub mod Lines
pub mod Ends
pub mod Texts
