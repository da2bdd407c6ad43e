pub mod Counted
pub mod Placed
pub mod PartMoves
pub mod Comes
pub mod Open
pub mod PoolFree
