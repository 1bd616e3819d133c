pub mod UniformDraws
pub mod HashWords
pub mod TreeWalks
pub mod ListWinners
pub mod Logarithms
pub mod Straws
pub mod EvenWeights
