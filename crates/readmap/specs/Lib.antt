pub mod Texts
pub mod Judged
pub mod CommandLine
pub mod Words
