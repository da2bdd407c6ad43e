pub mod numbered_lemmas
pub mod picked_lemmas
pub mod settling_lemmas
