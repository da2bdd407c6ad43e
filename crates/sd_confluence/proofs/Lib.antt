pub mod bags
pub mod commuting
pub mod image
pub mod settling
pub mod runs
pub mod taking
pub mod examples
pub mod left
