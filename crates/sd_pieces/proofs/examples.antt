pub mod CourseExamples
pub mod CutExamples
pub mod HistoryExamples
