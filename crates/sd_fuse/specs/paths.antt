pub mod TwoMaps
pub mod FusionTests
pub mod FusionConditions
