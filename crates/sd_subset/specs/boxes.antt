pub mod Box
pub mod InForce
pub mod Apart
pub mod Hull
pub mod Columns
