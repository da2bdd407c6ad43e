pub mod LocalLemmas
