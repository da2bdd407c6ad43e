pub mod Turns
pub mod Uses
pub mod StreamUses
pub mod StreamLaws
pub mod StreamsKept
