pub mod Units
pub mod Tied
pub mod Lines
pub mod Items
pub mod States
pub mod Together
pub mod Programs
pub mod Rule
