pub mod States
pub mod Tables
pub mod Loops
pub mod Spread
pub mod Spans
