pub mod ComparisonOf
pub mod Listed
pub mod Lowered
