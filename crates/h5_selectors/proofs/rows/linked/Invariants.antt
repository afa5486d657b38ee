use Rattle.std.proofs.Common.{◌≡◌, length, map}
use Rattle.h5_selectors.specs.Rows.{AreLinked}
use Rattle.h5_selectors.proofs.rows.linked.Given as goal

abbrev pub invariant-loop-step : goal.invariant-loop-step
invariant-loop-step g l = (length l.links.items ≡ length l.ids) × AreLinked (g.T.Tree.forest l.tree) (map g.T.Tree.number l.ids) l.links.items
