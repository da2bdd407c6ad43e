pub mod Source
pub mod Promise
pub mod Small
