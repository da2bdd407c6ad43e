pub mod Traces
pub mod Steps
pub mod Ends
pub mod Rewritten
pub mod Widths
