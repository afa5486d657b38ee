pub mod Weight
pub mod Steps
pub mod Mark
pub mod ReaderText
pub mod Options
pub mod Outcome
pub mod Closing
pub mod Telling
