pub mod Course
pub mod Made
pub mod InProgram
