pub mod FirstContainers
pub mod Linked
