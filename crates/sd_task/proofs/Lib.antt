pub mod in_force_lemmas
pub mod task_lemmas
pub mod tasklet_names_lemmas
pub mod tasklets_lemmas
pub mod containers_lemmas
