pub mod items_lemmas
pub mod needs_lemmas
pub mod states_lemmas
pub mod elab_lemmas
