pub mod ActiveFormatting
pub mod Builder
pub mod Chains
pub mod Fragment
pub mod Held
pub mod Replies
