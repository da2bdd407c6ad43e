pub mod Shared
pub mod Told
pub mod Calls
pub mod Lines
pub mod Ends
pub mod Texts
pub mod Graphs
