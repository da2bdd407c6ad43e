pub mod Elaboration
pub mod Elaborable
