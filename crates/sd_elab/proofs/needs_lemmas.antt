pub mod CalledLemmas
pub mod NeededLemmas
