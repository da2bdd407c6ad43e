pub mod TextLines
pub mod PhysicalLines
pub mod SaidLines
pub mod LogicalLines
pub mod Known
pub mod ReadLines
pub mod NodeLines
pub mod Told
