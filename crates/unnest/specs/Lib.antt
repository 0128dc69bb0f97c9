pub mod Flat
pub mod Emit
pub mod Kinds
pub mod Rooms
pub mod Plans
pub mod Statement
pub mod FlatPlans
