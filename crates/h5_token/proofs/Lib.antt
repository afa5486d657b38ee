pub mod AttributeOrder
pub mod KeyLaws
pub mod Multisets
pub mod SortedAttributes
pub mod TextEquality
