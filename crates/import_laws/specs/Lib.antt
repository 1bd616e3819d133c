pub mod Own
pub mod Picks
pub mod Runs
