pub mod Courses
pub mod BlocksTied
pub mod Agreeing
