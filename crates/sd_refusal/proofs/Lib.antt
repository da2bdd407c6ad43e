pub mod MisuseLemmas
pub mod BoundLemmas
