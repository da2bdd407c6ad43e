pub mod Images
pub mod ImageChanges
pub mod Link
pub mod NextLinked
pub mod SafeImage
pub mod AlikeImages
