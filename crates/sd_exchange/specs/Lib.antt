pub mod reorder
pub mod tiles
pub mod ends
pub mod maps
