pub mod scope_lemmas
pub mod even_lemmas
