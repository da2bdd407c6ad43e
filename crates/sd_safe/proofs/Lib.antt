pub mod fit_lemmas
pub mod safe_lemmas
pub mod commuting_lemmas
pub mod pieces_lemmas
