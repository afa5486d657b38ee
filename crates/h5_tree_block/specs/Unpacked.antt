-- The nodes of an arena made from a block.
use Rattle.std.specs.Prelude.{ℕ, Option, slice_get}
use Rattle.std.specs.Option.{option_and_then}
use Rattle.h5_arena.specs.declared.nodes.NodeId.{NodeId}
use Rattle.h5_tree_block.specs.declared.unpack.Unpacked.{Unpacked}

-- the node made for a number; a text has none
abbrev pub id_of : Unpacked → (number : ℕ) → Option NodeId
id_of u n = option_and_then (λ id. id) (slice_get u.ids.items n)
