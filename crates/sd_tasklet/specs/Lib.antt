pub mod tasklet
pub mod literals
