-- How a text is cut doesn't matter: one text, and lists of tokens.
pub mod CutLaws
pub mod FlagLaws
pub mod ForeignTextLaws
pub mod JoinLaws
pub mod RunLaws
pub mod TableTextLaws
pub mod TextForestLaws
pub mod TextKeptLaws
