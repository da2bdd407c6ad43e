pub mod race_lemmas
pub mod cover_lemmas
pub mod checking_lemmas
pub mod text_lemmas
