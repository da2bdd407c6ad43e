pub mod line_lemmas
pub mod lines_lemmas
