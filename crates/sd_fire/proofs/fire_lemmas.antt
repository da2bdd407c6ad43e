pub mod Items
pub mod PlainKinds
pub mod Levels
pub mod Choices
pub mod Lists
pub mod Bodies
pub mod Runs
