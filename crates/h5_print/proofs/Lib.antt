pub mod EscapeLaws
pub mod ItemLaws
pub mod WordLaws
pub mod FrameLaws
pub mod HeldLaws
pub mod OneText
pub mod WritingLaws
