pub mod items
pub mod needs
pub mod states
pub mod elab
