pub mod Marks
pub mod Waiting
pub mod Counts
pub mod Boards
pub mod Closing
pub mod Ends
pub mod States
pub mod Ones
