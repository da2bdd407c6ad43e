pub mod NormalShapes
