pub mod RaceExamples
