pub mod More
pub mod StatesFused
pub mod Follows
pub mod ChangedTrees
pub mod FusedParts
pub mod FusedTrees
pub mod WholeFused
