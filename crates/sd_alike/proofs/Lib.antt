pub mod alike_lemmas
pub mod kept_lemmas
