pub mod course
pub mod cut
pub mod history
