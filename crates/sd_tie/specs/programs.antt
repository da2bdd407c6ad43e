pub mod Joined
pub mod Programs
