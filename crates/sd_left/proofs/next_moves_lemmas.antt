pub mod Held
pub mod Found
pub mod FoundItem
pub mod FoundFirst
pub mod Trees
pub mod Ways
