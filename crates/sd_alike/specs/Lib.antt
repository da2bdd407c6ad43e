pub mod alike
