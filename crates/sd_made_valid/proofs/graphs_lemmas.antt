pub mod Nested
pub mod Shallow
pub mod Places
