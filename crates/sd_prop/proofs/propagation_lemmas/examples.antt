pub mod AccessExamples
