pub mod Ways
pub mod Spans
pub mod Compositions
pub mod Insides
