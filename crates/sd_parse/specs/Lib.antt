pub mod ErrorNumber
pub mod grammar
