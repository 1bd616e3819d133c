mod LinesIn
pub mod Transcribed
mod Replies
mod Histories
mod Told
mod PoolSets
mod Passing
mod Pushed
mod Asked
mod Coming
mod Firsts
mod Alone
mod Fresh
mod Spending
pub mod Follows
