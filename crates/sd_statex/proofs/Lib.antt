pub mod states_lemmas
pub mod kept_lemmas
pub mod TwoFound
pub mod FusionLaws
pub mod NormalFused
