pub mod list
pub mod tally
