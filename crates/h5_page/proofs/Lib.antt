pub mod AttributeLaws
pub mod LayoutLaws
pub mod LinkLaws
pub mod WrapLaws
