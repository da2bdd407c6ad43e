pub mod leaves_lemmas
pub mod transition_lemmas
pub mod moves_lemmas
