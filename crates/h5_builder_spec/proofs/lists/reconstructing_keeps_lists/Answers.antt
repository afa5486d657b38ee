use Rattle.h5_builder_spec.proofs.entries.ReconstructLaws.{lists_reconstructed, rewinds_alone, rewinds_to}
use Rattle.h5_builder_spec.proofs.lists.reconstructing_keeps_lists.Goals as goal

pub returns-clause-rewinds : goal.returns-clause-rewinds
returns-clause-rewinds c = rewinds_to

pub returns-clause-only : goal.returns-clause-only
returns-clause-only c = rewinds_alone

pub returns-clause-keeps : goal.returns-clause-keeps
returns-clause-keeps c = lists_reconstructed
