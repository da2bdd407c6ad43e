pub mod elab
pub mod loops_shown
pub mod counted
pub mod limits
pub mod nodes
pub mod depths
pub mod writes
