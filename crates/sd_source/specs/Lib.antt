pub mod nodes
pub mod source
