pub mod SafeGraphExamples
pub mod ValidGraphExamples
