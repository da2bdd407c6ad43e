pub mod PrintingExamples
pub mod GrammarExamples
