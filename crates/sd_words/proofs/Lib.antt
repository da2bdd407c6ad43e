pub mod Parsing
pub mod KindOfCall
pub mod Values
pub mod OneCall
pub mod Files
