pub mod Found
pub mod Clear
