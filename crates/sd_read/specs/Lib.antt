pub mod decided
pub mod readable
pub mod told
pub mod blocks
