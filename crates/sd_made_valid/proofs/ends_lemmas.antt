pub mod Linear
pub mod Products
pub mod Values
pub mod Ends
