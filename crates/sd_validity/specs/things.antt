pub mod Things
pub mod Behind
