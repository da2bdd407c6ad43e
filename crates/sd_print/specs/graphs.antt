pub mod AffineText
pub mod SubsetText
pub mod LinkText
pub mod NodeText
pub mod StateText
pub mod GraphText
