pub mod propagation
pub mod collecting
