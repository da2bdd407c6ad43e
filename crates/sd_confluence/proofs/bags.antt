pub mod Values
pub mod BagMemory
pub mod Works
pub mod WorkTouches
pub mod WorkRuns
pub mod BagChanges
