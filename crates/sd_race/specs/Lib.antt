pub mod race
pub mod cover
pub mod checking
pub mod text
