pub mod same_end_lemmas
pub mod stepping_lemmas
pub mod write_lemmas
