pub mod ClosingLaws
pub mod ContextLaws
pub mod FosterLaws
pub mod PendingLaws
