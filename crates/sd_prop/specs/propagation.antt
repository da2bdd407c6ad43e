pub mod ItemNodes
pub mod Accesses
pub mod Scopes
pub mod Joined
