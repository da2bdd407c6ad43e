pub use Rattle.sd_tcode.specs.columns.Columns
pub mod Block
pub mod Point
pub mod Row
pub mod Setting
