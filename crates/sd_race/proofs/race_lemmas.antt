pub mod Modes
pub mod Symmetric
pub mod Members
pub mod Deciding
pub mod FirstLaws
pub mod Asked
pub mod examples
