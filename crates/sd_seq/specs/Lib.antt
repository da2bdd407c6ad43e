pub mod RunEnd
