pub mod Limits
pub mod Digits
pub mod PgText
pub mod Parts
pub mod Profiles
pub mod Changes
