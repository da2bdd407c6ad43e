pub mod Comings
pub mod Todos
pub mod Cuts
pub mod Evaluations
pub mod WholeInstances
