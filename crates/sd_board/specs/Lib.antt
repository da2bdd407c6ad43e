pub mod Progress
pub mod Assignment
pub mod Boards
pub mod States
pub mod Taking
