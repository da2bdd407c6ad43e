pub mod Mentioned
pub mod Drawing
pub mod Listing
