-- What each change leaves of a world.
pub mod ClosingLaws
pub mod ForeignLaws
pub mod ExpectedLaws
pub mod FormattingLaws
pub mod FramesetLaws
pub mod ListsLaws
pub mod NameLaws
pub mod PlaceLaws
pub mod PopLaws
pub mod RemovalLaws
pub mod SituationLaws
pub mod SoundLaws
pub mod TemplateLaws
pub mod TreeLaws
