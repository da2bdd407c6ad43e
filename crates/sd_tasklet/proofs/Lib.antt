pub mod tasklet_lemmas
pub mod literals_lemmas
