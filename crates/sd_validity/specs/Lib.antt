pub mod rules
pub mod bound_places
pub mod bound_shapes
pub mod bound_elements
pub mod levels
pub mod paths
pub mod things
