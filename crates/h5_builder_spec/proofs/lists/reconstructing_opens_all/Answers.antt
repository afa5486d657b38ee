use Rattle.h5_builder_spec.proofs.entries.ReconstructLaws.{front_reconstructed, reconstructed_is_open, reconstructed_none, reconstructed_twice}
use Rattle.h5_builder_spec.proofs.lists.reconstructing_opens_all.Goals as goal

pub returns-clause-opens : goal.returns-clause-opens
returns-clause-opens c = reconstructed_is_open

pub returns-clause-again : goal.returns-clause-again
returns-clause-again c = front_reconstructed

pub returns-clause-nothing : goal.returns-clause-nothing
returns-clause-nothing c = reconstructed_none

pub returns-clause-twice : goal.returns-clause-twice
returns-clause-twice c = reconstructed_twice
