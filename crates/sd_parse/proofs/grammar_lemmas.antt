pub mod Outlines
pub mod Completing
pub mod Passing
pub mod Closing
pub mod Lines
pub mod SmallSource
