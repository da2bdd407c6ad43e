pub mod ExampleParts
pub mod NodeExamples
pub mod CallExamples
