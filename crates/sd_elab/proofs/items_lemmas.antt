pub mod CallLemmas
pub mod GraphsLemmas
pub mod ItemLemmas
pub mod Kept
pub mod KindLemmas
pub mod ListLemmas
pub mod StatementLemmas
