pub mod Json
pub mod Stream
