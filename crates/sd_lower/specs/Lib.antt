pub mod Pieces
pub mod Kinds
pub mod Hulls
pub mod Boards
pub mod PlanText
