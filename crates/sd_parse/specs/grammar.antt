pub mod Outline
pub mod Programs
pub mod Small
