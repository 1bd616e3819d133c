pub mod Rounds
pub mod Numbered
