pub mod Connectors
pub mod Meanings
pub mod Stack
pub mod Lines
pub mod Ends
pub mod Read
