pub mod Held
pub mod Lending
pub mod Streams
pub mod Counts
pub mod Places
pub mod Wholes
pub mod GraphWholes
