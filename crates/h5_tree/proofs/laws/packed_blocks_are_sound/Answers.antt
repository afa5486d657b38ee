use Rattle.h5_tree.proofs.PackedTrees.{document_sound, fragment_sound}
use Rattle.h5_tree.proofs.laws.packed_blocks_are_sound.Goals as goal

pub returns : goal.returns
returns c = record { document = document_sound; fragment = fragment_sound }
