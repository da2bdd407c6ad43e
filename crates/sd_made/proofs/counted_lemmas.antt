pub mod DrawnNodes
pub mod CountedNodes
pub mod Noted
pub mod Agreed
