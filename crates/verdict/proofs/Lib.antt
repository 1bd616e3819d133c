pub mod Ordering
pub mod Cuts
pub mod Faults
pub mod Pairs
pub mod Lines
