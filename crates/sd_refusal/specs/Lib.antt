pub mod NotAForm
pub mod NotAffine
pub mod OverLimit
pub mod BadResolution
pub mod Refusals
pub mod Counting
