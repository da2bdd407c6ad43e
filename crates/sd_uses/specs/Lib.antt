pub mod Uses
pub mod UnknownName
pub mod Twice
pub mod ShapeMismatch
