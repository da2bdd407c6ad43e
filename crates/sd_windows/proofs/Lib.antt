pub mod NamedLeaves
pub mod NamedUnfold
pub mod WindowNumbers
pub mod PiecePoints
pub mod CutItems
pub mod examples
