pub mod elements
pub mod boxes
