pub mod Avoids
pub mod NamesOthers
pub mod DoneAlike
