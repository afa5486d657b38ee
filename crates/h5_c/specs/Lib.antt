pub mod ByName
pub mod Encodings
pub mod Pages
pub mod Policies
pub mod Selecting
pub mod Status
