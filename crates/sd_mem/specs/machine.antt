pub mod Coming
pub mod ComesTo
pub mod Stack
