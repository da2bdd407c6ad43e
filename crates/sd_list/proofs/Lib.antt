pub mod list_lemmas
pub mod tally_lemmas
