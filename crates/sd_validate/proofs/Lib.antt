pub mod limits_lemmas
pub mod validating_lemmas
