pub mod Asking
pub mod Orders
pub mod Scripts
pub mod Verdicts
pub mod Stops
pub mod Reading
pub mod Counts
