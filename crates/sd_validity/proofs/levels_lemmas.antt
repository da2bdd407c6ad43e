pub mod Lower
pub mod Named
pub mod Ends
pub mod Bound
