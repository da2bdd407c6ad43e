pub mod reorder_lemmas
pub mod tiles_lemmas
pub mod ends_lemmas
pub mod maps_lemmas
pub mod valid_lemmas
pub mod kept_lemmas
