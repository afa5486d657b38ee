-- What holds for the row that a tag's name chooses, and for each row in turn.
pub mod ByNameLaws
pub mod EndingLaws
pub mod KeptLaws
pub mod KnownRuleLaws
pub mod ListedLaws
pub mod MarkLaws
pub mod RowTexts
