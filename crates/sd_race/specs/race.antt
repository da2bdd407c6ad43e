pub mod Pairs
pub mod Race
pub mod Tests
