pub mod Rooms
pub mod Sums
