pub mod Forests
pub mod Rules
pub mod Picks
pub mod WorkedStraws
pub mod Descents
pub mod Choices
pub mod Runs
