pub mod LineReading
pub mod LinesReading
pub mod Prefix
pub mod NodeRefusal
pub mod Parsed
pub mod SourceReading
