pub mod rows_lemmas
pub mod consume_lemmas
pub mod tasks_lemmas
