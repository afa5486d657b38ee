-- What a parser keeps between calls, and what both tokenizers have in common. As in `h5_builder_spec.specs.inner`, laws have it as a premise,
-- and the contracts of the calls give it.
pub mod Readings
pub mod Working
