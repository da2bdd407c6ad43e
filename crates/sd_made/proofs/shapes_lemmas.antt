pub mod NormalForms
pub mod NormalGraphs
pub mod Kept
