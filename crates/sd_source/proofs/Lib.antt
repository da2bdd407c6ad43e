pub mod nodes_lemmas
pub mod source_lemmas
