pub mod Once
pub mod Named
pub mod Kept
pub mod Spared
pub mod Behind
pub mod FusionThere
pub mod FusionLeads
pub mod ValidFusion
