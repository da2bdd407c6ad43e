pub mod TouchExamples
pub mod SafeExamples
pub mod AlikeExamples
pub mod EventExamples
pub mod SidesExamples
pub mod TakesExamples
