pub mod begin_lemmas
pub mod advance_lemmas
pub mod fire_lemmas
pub mod settle_lemmas
pub mod sparse_lemmas
