pub mod Within
pub mod Wider
mod DigitsLeft
mod PgTexts
