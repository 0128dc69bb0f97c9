pub mod Places
pub mod Laid
pub mod Conditions
pub mod Steps
pub mod Turns
pub mod Folds
