pub mod SinkLemmas
pub mod Parts
pub mod LineSplit
pub mod Pieces
pub mod StepLines
pub mod Rests
pub mod GraphParts
