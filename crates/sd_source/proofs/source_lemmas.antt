pub mod LineLemmas
pub mod PrefixLemmas
