pub mod LiftedLists
pub mod LiftedMeaning
