pub mod Used
pub mod Passed
pub mod Names
pub mod UsedPlaces
