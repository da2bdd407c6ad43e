pub mod scope
pub mod even
pub mod take
