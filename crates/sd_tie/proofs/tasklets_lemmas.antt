pub mod Stands
pub mod Numbered
pub mod ConnectorsTied
pub mod TaskValues
pub mod Locals
pub mod LinesTied
pub mod WholeTied
