pub mod AgreeLemmas
pub mod FunctionLemmas
