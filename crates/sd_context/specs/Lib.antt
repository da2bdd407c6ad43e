pub mod context
pub mod blocks
