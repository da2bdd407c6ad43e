pub mod Below
pub mod ValidOrder
pub mod Following
