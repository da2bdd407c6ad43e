pub mod renamed_lemmas
pub mod ends_lemmas
pub mod maps_lemmas
pub mod valid_lemmas
pub mod normal_lemmas
pub mod paths_lemmas
