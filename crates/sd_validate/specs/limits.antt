pub mod SmallAs
pub mod Totals
