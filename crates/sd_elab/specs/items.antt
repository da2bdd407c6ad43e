pub mod Appended
pub mod Counts
pub mod NamesBehind
pub mod Items
pub mod Graphs
pub mod GraphsByNumber
pub mod Scopes
pub mod Kinds
