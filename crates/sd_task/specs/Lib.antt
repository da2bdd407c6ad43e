pub mod in_force
pub mod task
pub mod tasklet_names
pub mod tasklets
pub mod containers
