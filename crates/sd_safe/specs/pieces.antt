pub mod ItemPieces
pub mod Keeping
