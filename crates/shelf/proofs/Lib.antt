pub mod Checking
pub mod Whole
pub mod Showing
