pub mod Expressions
pub mod Links
pub mod Uses
pub mod Renaming
