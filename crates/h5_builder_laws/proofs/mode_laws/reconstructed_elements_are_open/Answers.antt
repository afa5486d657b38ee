use Rattle.h5_builder_spec.proofs.changes.FormattingLaws.{open_reconstruct}
use Rattle.h5_builder_laws.proofs.mode_laws.reconstructed_elements_are_open.Goals as goal

pub returns : goal.returns
returns c = open_reconstruct
