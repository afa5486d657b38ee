-- What a builder keeps at every turn and between tokens. Laws have it as a premise, and the contracts of the builder's calls give it, so
-- a reader who wants to believe a law over a builder doesn't need these definitions.
pub mod Contexts
pub mod Fits
pub mod Floors
pub mod Frames
pub mod Kept
pub mod Lists
pub mod NamesFit
