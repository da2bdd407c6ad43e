pub mod Inside
pub mod Entered
pub mod Assigned
pub mod Evaluated
pub mod Found
pub mod Told
pub mod Ways
