mod OrderLaw
mod FewExceptions
mod OwnFits
pub mod OwnParts
mod Held
mod OneMap
mod ReadBack
mod OneSort
mod OwnChange
mod ChangeBack
mod ReadChange
mod AcceptedFits
mod JournalBack
