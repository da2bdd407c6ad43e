pub mod Invalidity
