pub mod Lines
pub mod TokenLines
pub mod TokenPlaces
pub mod SourceLines
