pub mod Expressions
pub mod Tasklets
pub mod Bound
pub mod Small
