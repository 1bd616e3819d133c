mod MarksLemmas
mod Masks
pub mod Named
pub mod Accepted
pub mod CheckLemmas
pub mod AfterLemmas
pub mod Grown
mod Devices
mod Leaving
mod Growing
mod GroupTotals
pub mod Kept
pub mod PlacementLemmas
pub mod Fitting
pub mod BuildLemmas
mod Listing
pub mod Built
pub mod Excepted
pub mod MappedAlike
pub mod StandingUp
pub mod MappedExist
pub mod PartsStay
pub mod OthersStay
