pub mod ScopeLaws
pub mod examples
