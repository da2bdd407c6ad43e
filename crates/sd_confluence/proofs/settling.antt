pub mod Waits
pub mod ClosedPools
pub mod Closings
pub mod SettleRow
pub mod Progress
pub mod Kept
pub mod ClosedKept
pub mod SettleKept
