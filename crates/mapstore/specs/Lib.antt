pub mod JournalTexts
pub mod Openings
pub mod Stores
pub mod OneJournal
pub mod Laws
pub mod Words
pub mod Kept
