pub mod wiring
pub mod wire_laws
pub mod loops
