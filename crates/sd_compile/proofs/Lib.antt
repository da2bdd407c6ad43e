pub mod FewDimensions
pub mod Values
pub mod Joined
pub mod Shapes
