pub mod numbered
pub mod picked
