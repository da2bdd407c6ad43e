pub mod PieceExamples
