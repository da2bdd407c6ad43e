pub mod RenamedNormal
pub mod FusedNormal
