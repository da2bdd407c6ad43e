pub mod Machines
pub mod Reached
pub mod Stepping
pub mod Interleaved
pub mod released_lemmas
pub mod release_lemmas
