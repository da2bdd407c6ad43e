pub mod Marks
pub mod Table
pub mod About
pub mod Spans
pub mod Spread
