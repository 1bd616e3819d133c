pub mod Streams
pub mod Puts
pub mod ValueKinds
pub mod Entries
pub mod Taken
pub mod Texts
