pub mod Joins
pub mod Keys
pub mod Lent
pub mod Occurrences
pub mod OptionalText
pub mod Reply
pub mod TokenText
