pub mod Among
pub mod Indices
pub mod LeafCovered
pub mod Owners
pub mod UsesOf
pub mod Joined
pub mod Covered
pub mod JoinedAccesses
