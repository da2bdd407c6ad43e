pub mod Throughout
pub mod AffineValue
pub mod LoopShape
pub mod EnteredLoops
