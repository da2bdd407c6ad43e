pub mod Containers
pub mod States
pub mod StatesKept
pub mod Shallow
pub mod ShallowKept
pub mod OwnNames
pub mod OwnNamesKept
