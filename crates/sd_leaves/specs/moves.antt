pub mod Left
pub mod Moved
pub mod Evaluated
