pub mod mem
pub mod machine
