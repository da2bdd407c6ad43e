pub mod ClosingLemmas
pub mod JudgingLemmas
pub mod ContinuingLemmas
