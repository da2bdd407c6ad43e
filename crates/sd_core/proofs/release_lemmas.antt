pub mod Lists
pub mod Levels
pub mod Sparse
