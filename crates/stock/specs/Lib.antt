pub mod Tables
pub mod Refusals
pub mod Tabled
pub mod Pairs
