pub mod Expressions
pub mod Containers
