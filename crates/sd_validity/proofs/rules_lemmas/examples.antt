pub mod ExampleParts
pub mod RuleExamples
