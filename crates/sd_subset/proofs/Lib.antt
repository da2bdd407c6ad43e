pub mod elements_lemmas
pub mod boxes_lemmas
