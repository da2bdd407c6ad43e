pub mod Along
pub mod Band
pub mod Code
pub mod Kept
pub mod Map
pub mod Still
