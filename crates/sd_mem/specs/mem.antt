pub mod Shaped
pub mod Cells
pub mod GraphContents
pub mod Holding
pub mod Strides
