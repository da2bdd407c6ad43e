pub mod leaves
pub mod transition
pub mod moves
