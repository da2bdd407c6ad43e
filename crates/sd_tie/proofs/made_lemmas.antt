pub mod StatesFound
pub mod MadeTied
