pub mod Answers
pub mod Attaching
