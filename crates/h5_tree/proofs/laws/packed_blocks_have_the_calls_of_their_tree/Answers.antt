use Rattle.h5_tree.proofs.KnownTrees.{document_calls, document_html, fragment_calls, fragment_html}
use Rattle.h5_tree.proofs.laws.packed_blocks_have_the_calls_of_their_tree.Goals as goal

pub returns : goal.returns
returns c = record { document = document_calls; document_html = document_html; fragment = fragment_calls; fragment_html = fragment_html }
