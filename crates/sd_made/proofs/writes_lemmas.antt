pub mod Known
pub mod Links
pub mod Items
pub mod States
pub mod Programs
pub mod Bound
