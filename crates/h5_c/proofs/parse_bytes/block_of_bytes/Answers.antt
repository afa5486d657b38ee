use Rattle.std.proofs.Common.{ap, ◌∙◌}
use Rattle.h5_tree_block.specs.Columns.{document_columns}
use Rattle.h5_c.proofs.parse_bytes.block_of_bytes.Goals as goal

pub returns : goal.returns
returns c = record { arena = c.in_ok-arena.arena; is_tree = c.in_ok-arena.ensures; columns = c.in_ok-columns.columns; holds = c.in_ok-columns.ensures ∙ ap (document_columns c.in_ok-arena.arena) c.is_scripting.ensures; packed = c.in_ok-block.ensures.block }
