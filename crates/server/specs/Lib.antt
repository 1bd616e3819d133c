pub mod Failures
pub mod Pairs
pub mod Serving
pub mod Players
pub mod Outs
