pub mod KeepLemmas
pub mod RowLemmas
pub mod OpenLemmas
