pub mod Body
pub mod Own
pub mod Pool
pub mod Taking
