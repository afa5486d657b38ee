-- Borrowed identifiers of a doctype.
use Rattle.h5_tree_block.specs.Columns.{DoctypeIds}
use Rattle.h5_tree_block.specs.declared.of_arena.Ids.{Ids}

-- the identifiers, independent of where they are in memory
abbrev pub lent : Ids → DoctypeIds
lent ids = record { public_id = ids.public_id.now; system_id = ids.system_id.now }
