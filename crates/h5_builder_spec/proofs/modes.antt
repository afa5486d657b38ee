-- The rules of one mode, or of a group of modes.
pub mod AfterHead
pub mod CloseInLaws
pub mod FosterLaws
pub mod FramesetRowLaws
pub mod InBody
pub mod InHead
pub mod PushHeadLaws
pub mod ReadyInLaws
pub mod ReadyLaws
pub mod TemplateRowLaws
pub mod TextBeginsLaws
