pub mod ranks
pub mod places
