pub mod Sameness
pub mod Weights
pub mod Counts
pub mod Folds
pub mod Soundness
pub mod Growing
pub mod Goods
pub mod Widths
pub mod Keys
pub mod Joins
pub mod Contexts
pub mod Fronts
pub mod Aggregates
pub mod Connectives
mod Theorems
