pub mod rows
pub mod consume
pub mod tasks
