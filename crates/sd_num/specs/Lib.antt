pub mod Wrapped
pub mod Width
pub mod Resolution
pub mod Floor
