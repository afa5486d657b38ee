pub mod NameLemmas
pub mod NamespaceLaws
pub mod ChangeLaws
pub mod Charset
pub mod DoctypeLaws
pub mod MetaParts
pub mod TableLaws
