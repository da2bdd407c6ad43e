pub mod TableLemmas
pub mod ExpressionLemmas
pub mod AffineLemmas
pub mod NameLemmas
