pub mod KeepingExamples
