pub mod Fields
pub mod StatedMaps
pub mod StatedChanges
pub mod StatedLoads
pub mod Profiles
pub mod Steps
pub mod Places
pub mod Laws
