pub mod DecodingLaws
pub mod PrescanLaws
