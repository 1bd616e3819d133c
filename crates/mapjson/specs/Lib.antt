pub mod MapTexts
pub mod ChangeTexts
pub mod LoadTexts
pub mod Written
pub mod Pieces
pub mod PartsOfChange
pub mod WrittenChanges
