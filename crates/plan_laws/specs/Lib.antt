pub mod Alone
pub mod Toward
