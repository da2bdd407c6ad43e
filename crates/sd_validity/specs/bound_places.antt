pub mod Throughout
pub mod BoundPlace
pub mod SizedExtents
