pub mod Words
pub mod Heads
pub mod Contexts
pub mod Lines
pub mod Read
