pub mod wiring_lemmas
pub mod wire_laws_lemmas
pub mod loops_lemmas
