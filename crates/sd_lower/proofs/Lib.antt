pub mod Shares
pub mod AnyNodes
pub mod Alone
pub mod Paths
pub mod Covering
pub mod States
pub mod examples
