pub mod Editing
pub mod EditModel
pub mod Moving
