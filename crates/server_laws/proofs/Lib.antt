mod Histories
mod Merged
mod Apart
mod Session
mod Run
mod Sound
