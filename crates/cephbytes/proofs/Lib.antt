pub mod Flips
pub mod Fronts
pub mod Loop
pub mod Spelled
pub mod Table
