pub mod Courses
pub mod ExactTurns
pub mod MoreAllowed
pub mod MoreTurns
pub mod Readings
pub mod Shapes
pub mod Touched
