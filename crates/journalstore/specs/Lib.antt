pub mod Tables
pub mod Texts
pub mod Read
pub mod Faults
pub mod Stores
pub mod Folded
pub mod Claims
