pub mod Truths
pub mod Cells
pub mod Spellings
