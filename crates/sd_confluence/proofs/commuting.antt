pub mod Stable
pub mod Within
pub mod NextMoves
pub mod Answers
pub mod Stays
pub mod Square
pub mod Swap
pub mod Front
