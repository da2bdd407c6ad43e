pub mod Fit
pub mod Touched
pub mod Inside
