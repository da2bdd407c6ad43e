pub mod renamed
pub mod ends
pub mod maps
pub mod paths
