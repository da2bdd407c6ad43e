pub mod ItemKinds
pub mod Items
pub mod NestedRuns
pub mod States
pub mod Transitions
pub mod WholeRuns
