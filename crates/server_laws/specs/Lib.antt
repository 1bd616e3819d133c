pub mod Visits
pub mod Sessions
pub mod Sound
