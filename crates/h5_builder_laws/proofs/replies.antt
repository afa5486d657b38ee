-- What rules answer, whatever the world.
pub mod TextReadLaws
