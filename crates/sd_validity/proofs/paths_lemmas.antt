pub mod Found
pub mod Leaving
pub mod Free
