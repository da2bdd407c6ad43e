pub mod Pieces
pub mod History
pub mod DoneWithin
