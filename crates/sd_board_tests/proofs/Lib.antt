pub mod SmallBoard
