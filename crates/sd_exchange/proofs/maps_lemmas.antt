pub mod Shuffling
pub mod Keeping
pub mod PoolsSafe
pub mod Congruent
pub mod Interchanging
pub mod Interchanges
pub mod StaysValid
pub mod Carrying
pub mod MapsTiled
pub mod PoolsAccepted
pub mod Tailings
pub mod OrderRewritten
pub mod Leading
mod examples
