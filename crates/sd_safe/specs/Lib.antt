pub mod normal
pub mod safe
pub mod pieces
