-- Plain documents, read by the standard's tokenization.
pub mod QuietLaws
pub mod RunLaws
pub mod ReferenceLaws
pub mod TextLaws
pub mod TagLaws
pub mod ReadingLaws
pub mod InsideLaws
pub mod MarkupLaws
pub mod PlainMarkupLaws
