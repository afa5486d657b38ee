use Rattle.std.proofs.Common.{◌≡◌, map}
use Rattle.h5_tree_block.specs.Columns.{held, with_attributes}
use Rattle.h5_tree_block.proofs.columns.Columns.add_attributes.Given as goal

-- the attributes so far are rows
abbrev pub invariant-loop-attr : goal.invariant-loop-attr
invariant-loop-attr g l = held l.self ≡ with_attributes (held l.initial.self) (map g.T.AttrRef.attribute l.yielded)
