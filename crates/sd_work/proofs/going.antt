-- Why no well-formed machine stands still before its end.
pub mod OrdersKept
pub mod MemoriesKept
pub mod NoMove
pub mod Machines
