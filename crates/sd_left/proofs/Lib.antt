pub mod tree_lemmas
pub mod fired_lemmas
pub mod left_lemmas
pub mod next_moves_lemmas
pub mod pool_free_lemmas
pub mod pool_free_left_lemmas
pub mod sparse_lemmas
