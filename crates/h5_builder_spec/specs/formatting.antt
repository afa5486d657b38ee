-- The list of active formatting elements, and the adoption agency (HTML standard, sections 13.2.4.3
-- and 13.2.6.4.7).
pub mod Adoption
pub mod AdoptionAgency
pub mod Formatting
pub mod FormattingList
pub mod FormattingNames
pub mod Fresh
pub mod InnerLoop
pub mod Places
