pub mod Following
pub mod Bounds
pub mod Memories
pub mod Points
pub mod Entering
pub mod CallsTied
pub mod TaskLines
pub mod ItemsTied
