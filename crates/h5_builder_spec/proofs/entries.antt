-- The stack of open elements and the list of active formatting elements, as lists.
pub mod AlikeLaws
pub mod EachLaws
pub mod EntryLaws
mod Examples
pub mod FreshLaws
pub mod KeptListsLaws
pub mod PairLaws
pub mod PassLaws
pub mod PlainListLaws
pub mod PushLaws
pub mod ReconstructLaws
pub mod ReplaceLaws
pub mod RoundLaws
pub mod SplitLaws
pub mod StepLaws
pub mod WalkLaws
pub mod WholeRoundLaws
