mod AttributeLaws
mod KnownTags
pub mod EachLaws
pub mod EntryLemmas
pub mod EscapeLaws
pub mod Escapes
pub mod FrontLaws
pub mod WalkLemmas
pub mod WalkSteps
