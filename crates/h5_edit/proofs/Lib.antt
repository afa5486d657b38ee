pub mod KeepLaws
pub mod MoveLaws
