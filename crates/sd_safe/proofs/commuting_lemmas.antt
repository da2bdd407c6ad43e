pub mod InRuns
pub mod StandsFit
