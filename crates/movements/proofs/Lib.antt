pub mod Rowed
pub mod Walked
pub mod Changes
pub mod Empty
pub mod Rooms
