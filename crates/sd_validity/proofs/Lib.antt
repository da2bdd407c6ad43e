pub mod rules_lemmas
pub mod bound_places_lemmas
pub mod bound_shapes_lemmas
pub mod bound_elements_lemmas
pub mod levels_lemmas
pub mod paths_lemmas
pub mod things_lemmas
