pub mod Code
pub mod Item
