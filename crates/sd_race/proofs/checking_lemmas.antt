pub mod Searching
pub mod Enclosing
pub mod Clearing
pub mod Alike
