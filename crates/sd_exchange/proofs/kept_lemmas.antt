pub mod InterchangedKept
pub mod TiledKept
pub mod ValidKept
