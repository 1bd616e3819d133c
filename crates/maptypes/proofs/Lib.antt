pub mod Whole
pub mod Narrowed
pub mod Judged
pub mod CrushFits
pub mod CrushWith
pub mod GroupTexts
mod Shorts
pub mod Totals
mod SetTexts
mod Replaced
pub mod RisingListsEqual
pub mod ItemsAlone
pub mod NamedParts
