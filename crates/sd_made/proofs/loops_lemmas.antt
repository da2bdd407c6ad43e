pub mod AtGraphs
pub mod Together
pub mod Affine
pub mod Right
pub mod Agreed
pub mod Transitions
