use Rattle.std.proofs.Common.{◌≡◌, ◌<◌, All, length, map, take}
use Rattle.h5_selectors.specs.Rows.{AreRising, AreWithin, node_in}
use Rattle.h5_selectors.proofs.rows.child_rows.Given as goal

abbrev pub invariant-loop-child : goal.invariant-loop-child
invariant-loop-child g l = record {
  found : map (node_in (g.T.Tree.forest l.tree) (map g.T.Tree.number l.ids)) l.found.items ≡ map g.T.Tree.number (take l.child-index l.children);
  rising : AreRising l.found.items;
  within : AreWithin l.at (length l.ids) l.found.items;
  before : All (λ r. r < l.row) l.found.items;
  behind : l.at < l.row;
}
