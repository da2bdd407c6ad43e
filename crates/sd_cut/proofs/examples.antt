pub mod CellExamples
pub mod OverlayExamples
pub mod StreamExamples
