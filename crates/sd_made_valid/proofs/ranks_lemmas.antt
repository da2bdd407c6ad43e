pub mod Levels
pub mod Below
pub mod Items
pub mod Conditions
pub mod States
pub mod Namings
pub mod Places
pub mod Programs
