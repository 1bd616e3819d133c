pub mod Journals
pub mod Stores
pub mod Epochs
