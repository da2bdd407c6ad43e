pub mod LevelExamples
pub mod kept
pub mod lines
pub mod places
pub mod counts
pub mod Fields
