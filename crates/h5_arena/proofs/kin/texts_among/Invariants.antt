use Rattle.std.proofs.Common.{◌≡◌, ◌++◌, drop}
use Rattle.std.specs.Prelude.{string_bytes}
use Rattle.h5_arena.specs.Kin.{texts_among}
use Rattle.h5_arena.specs.Lent.{lent_views}
use Rattle.h5_arena.proofs.kin.texts_among.Given as goal

abbrev pub invariant-loop-child : goal.invariant-loop-child
invariant-loop-child l = string_bytes l.text ++ texts_among (lent_views (drop l.child-index l.children)) ≡ texts_among (lent_views l.children)
