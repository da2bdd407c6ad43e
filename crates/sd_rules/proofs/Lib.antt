pub mod Below
pub mod States
pub mod PrivateHeld
pub mod Pushed
