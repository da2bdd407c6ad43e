pub mod Counted
pub mod Privates
pub mod StatesCounted
pub mod HeldMade
pub mod Spans
pub mod VariablesMade
pub mod Elements
pub mod Scopes
