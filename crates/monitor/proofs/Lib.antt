mod Tallied
pub mod Histories
pub mod Followers
pub mod Balancing
pub mod Within
pub mod Making
mod Counting
