pub mod Piece
pub mod Held
pub mod Run
