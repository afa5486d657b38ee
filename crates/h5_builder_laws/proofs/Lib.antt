mod BodyRuleLaws
mod BodyStepLaws
mod BuildsLaws
mod CalmLaws
mod FilledLaws
mod FormatListLaws
mod FormatRuleLaws
mod FormatStepLaws
mod HeadLaws
mod KeptBackLaws
mod ListRuleLaws
mod ListStepLaws
mod ListedLaws
mod ModeLaws
mod PhraseRuleLaws
mod PhraseStepLaws
mod TableBuildsLaws
mod TableRuleLaws
mod TableStepLaws
mod TitleLaws
pub mod BoxLaws
pub mod CutGoesLaws
pub mod FragmentLaws
pub mod GoesLaws
pub mod GrowthLaws
pub mod HtmlLaws
pub mod LawfulRow
pub mod LooksLaws
pub mod ModeRuleLaws
pub mod RuleLaws
pub mod StageLaws
pub mod StartLaws
pub mod LessLaws
pub mod StayingLaws
pub mod WholeLaws
pub mod cuts
pub mod kept
pub mod modes
pub mod replies
pub mod turns
