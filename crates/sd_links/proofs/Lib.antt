pub mod Arguments
pub mod Counted
pub mod Differences
pub mod FourLists
pub mod Pairs
