pub mod Journals
pub mod Committing
pub mod Refusing
