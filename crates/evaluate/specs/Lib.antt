pub mod Kinds
pub mod Moments
pub mod Laying
pub mod Running
pub mod Reading
pub mod Asking
pub mod Examples
