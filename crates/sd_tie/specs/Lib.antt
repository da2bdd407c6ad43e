pub mod elements
pub mod tasklets
pub mod items
pub mod states
pub mod programs
