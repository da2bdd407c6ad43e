pub mod Places
pub mod Work
pub mod Stage
pub mod Stand
pub mod Ends
pub mod Going
