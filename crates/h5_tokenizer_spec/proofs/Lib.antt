pub mod RowLaws
pub mod RankLaws
pub mod RawLaws
pub mod ReadLaws
pub mod AllLaws
pub mod ByRows
pub mod CutLaws
pub mod LineLaws
pub mod WholeLaws
pub mod AheadLaws
pub mod TableLaws
pub mod ErrorListLaws
pub mod TellingLaws
pub mod ToldLaws
pub mod ToldCutLaws
mod Outcomes
mod Examples
