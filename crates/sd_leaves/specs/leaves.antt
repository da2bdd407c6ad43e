pub mod Cells
pub mod Done
pub mod Given
pub mod Next
pub mod Read
