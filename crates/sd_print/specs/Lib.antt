pub mod places
pub mod graphs
