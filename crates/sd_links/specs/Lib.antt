pub mod ExtentOf
