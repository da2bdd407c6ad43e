pub mod PlanExamples
