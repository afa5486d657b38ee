pub mod Boxes
pub mod Cuts
pub mod Plain
pub mod Rebuilding
pub mod Staying
