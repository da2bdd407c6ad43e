pub mod EachPlace
pub mod Asked
pub mod LoopsAbout
pub mod BoundPlaces
pub mod Gone
