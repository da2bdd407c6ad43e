pub mod propagation_lemmas
pub mod collecting_lemmas
