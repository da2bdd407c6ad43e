pub mod Finding
pub mod Arguments
pub mod Command
pub mod Parsed
