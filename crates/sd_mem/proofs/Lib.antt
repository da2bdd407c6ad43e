pub mod mem_lemmas
pub mod machine_lemmas
