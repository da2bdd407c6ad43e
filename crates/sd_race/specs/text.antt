pub mod AccessText
pub mod CheckText
pub mod RaceText
