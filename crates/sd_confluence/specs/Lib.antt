pub mod Safe
pub mod Alike
pub mod Event
pub mod Left
pub mod Sides
pub mod Takes
