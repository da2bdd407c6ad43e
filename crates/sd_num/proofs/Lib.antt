pub mod Products
pub mod ResolutionLemmas
pub mod FloorLemmas
pub mod FoldLemmas
pub mod FloorUnique
pub mod FloorValues
pub mod StoredLemmas
