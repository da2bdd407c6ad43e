pub mod Declarations
pub mod NamesToCome
