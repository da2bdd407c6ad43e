pub mod Near
pub mod Few
pub mod FewBound
pub mod MadeFew
pub mod Expressions
pub mod Containers
