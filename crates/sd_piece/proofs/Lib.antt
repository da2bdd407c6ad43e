pub mod Fresh
pub mod Found
pub mod Arrays
pub mod Touched
pub mod Cutting
pub mod Right
pub mod Graphs
pub mod Agreeing
