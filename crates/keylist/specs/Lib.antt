pub mod Keys
pub mod Order
pub mod Puts
pub mod Walks
