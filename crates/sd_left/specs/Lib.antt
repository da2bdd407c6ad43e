pub mod tree
pub mod fired
pub mod left
pub mod pool_free
pub mod sparse
