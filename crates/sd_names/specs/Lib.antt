pub mod Names
pub mod Limits
pub mod Extents
pub mod Expressions
