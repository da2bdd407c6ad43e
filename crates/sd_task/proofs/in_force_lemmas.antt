pub mod AffineLemmas
pub mod ListLemmas
pub mod ScopeLemmas
pub mod SmallLemmas
pub mod SubsetLemmas
