pub mod UseLemmas
pub mod CallLemmas
