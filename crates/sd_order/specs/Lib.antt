pub mod table
pub mod items
