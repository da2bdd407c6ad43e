pub mod ItemKinds
pub mod Rolled
pub mod Parts
pub mod Bodies
