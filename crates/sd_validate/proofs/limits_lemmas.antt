pub mod Among
pub mod Levels
pub mod SmallValues
