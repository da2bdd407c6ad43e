pub mod same_end
pub mod stepping
pub mod write
