pub mod Pieces
pub mod RunText
