-- The stack of open elements: its order, scopes and ways to close (HTML standard, section 13.2.4.2).
pub mod Closing
pub mod Expected
pub mod Order
pub mod Root
pub mod Scope
pub mod Splits
