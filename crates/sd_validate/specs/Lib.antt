pub mod limits
pub mod validating
