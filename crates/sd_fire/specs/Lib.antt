pub mod begin
pub mod advance
pub mod fire
pub mod settle
pub mod sparse
