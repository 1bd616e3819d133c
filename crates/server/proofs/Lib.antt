mod Joined
mod Opened
mod Paired
mod Outs
mod Played
mod Answered
mod Put
