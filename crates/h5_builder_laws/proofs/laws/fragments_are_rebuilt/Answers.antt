use Rattle.h5_builder_laws.proofs.FragmentLaws.{rebuilds_fragments}
use Rattle.h5_builder_laws.proofs.laws.fragments_are_rebuilt.Goals as goal

pub returns : goal.returns
returns c = rebuilds_fragments
