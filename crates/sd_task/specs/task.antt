pub mod Table
pub mod Links
pub mod Operators
pub mod UsedVariables
pub mod ElementCode
pub mod TableOf
