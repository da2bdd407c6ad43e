pub mod Context
pub mod ContextFold
pub mod Declaring
pub mod Writing
pub mod Awaiting
pub mod Placing
pub mod After
