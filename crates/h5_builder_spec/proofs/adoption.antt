-- What the adoption agency leaves of a world.
pub mod AdoptionAgencyLaws
pub mod AdoptionForest
pub mod AdoptionFrameLaws
pub mod AdoptionLaws
pub mod AdoptionPlace
pub mod AdoptionRound
pub mod NamesAdoptionLaws
