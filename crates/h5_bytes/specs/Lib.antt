pub mod Texts
pub mod Parsing
