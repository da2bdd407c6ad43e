pub mod Tested
pub mod MapsThere
pub mod ConditionsHold
