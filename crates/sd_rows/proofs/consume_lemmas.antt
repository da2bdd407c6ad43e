pub mod Bodies
pub mod Evaluations
pub mod Exchanged
pub mod Takes
pub mod Pools
