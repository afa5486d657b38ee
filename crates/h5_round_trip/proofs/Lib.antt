mod KeptNewlineLaws
pub mod CharLaws
pub mod NameLaws
pub mod AttributeLaws
pub mod TagLaws
pub mod ShapeLaws
pub mod DoubledLaws
mod MarkLaws
pub mod ReadingLaws
pub mod JoinedLaws
pub mod InsideLaws
pub mod WrittenLaws
pub mod TellsLaws
pub mod standard
