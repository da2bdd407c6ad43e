pub mod Numbers
pub mod Tells
pub mod Decided
pub mod Range
