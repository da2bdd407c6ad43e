pub mod WindowExamples
