pub mod Standing
pub mod FirstRefused
