pub mod Bare
pub mod Lowering
pub mod Ranked
