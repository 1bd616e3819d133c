pub mod Steps
mod Events
