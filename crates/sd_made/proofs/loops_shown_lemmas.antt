pub mod Paths
pub mod Flows
pub mod Climbs
pub mod Closing
pub mod Listed
pub mod LoopsShown
pub mod FunctionShown
