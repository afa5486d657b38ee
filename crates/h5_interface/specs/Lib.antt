pub mod Ancestors
pub mod Changes
pub mod Forest
pub mod NewElement
pub mod Seen
pub mod SinkChoices
pub mod SmallTree
