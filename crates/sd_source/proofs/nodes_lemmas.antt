pub mod NameLemmas
pub mod AccessLemmas
pub mod NodeLemmas
pub mod KeptLemmas
pub mod examples
