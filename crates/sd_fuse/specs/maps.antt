pub mod Cross
pub mod Fused
pub mod Gathered
pub mod InTurn
pub mod MapRenamed
pub mod MapsFused
pub mod FusionRewrite
pub mod FusionAsked
