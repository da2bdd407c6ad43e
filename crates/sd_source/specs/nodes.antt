pub mod Items
pub mod Names
pub mod Nodes
pub mod SourceItems
pub mod SourceNodes
pub mod NodeLimits
pub mod KeptCounts
