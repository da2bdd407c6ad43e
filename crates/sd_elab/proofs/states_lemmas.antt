pub mod StandingLemmas
pub mod BlockLemmas
pub mod BuildingLemmas
pub mod CountLemmas
pub mod StatementTrees
pub mod ThreadedLemmas
