pub mod Listed
pub mod Nearer
pub mod Reaching
pub mod Confluent
pub mod Interleavings
