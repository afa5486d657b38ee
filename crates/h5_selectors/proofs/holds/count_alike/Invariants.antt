use Rattle.std.proofs.Common.{◌≡◌, ◌+◌, ◌≤◌, drop, length, map}
use Rattle.std.specs.List.{filter}
use Rattle.h5_tree.specs.Elements.{is_same_type}
use Rattle.h5_selectors.proofs.holds.count_alike.Given as goal

abbrev pub invariant-loop-other : goal.invariant-loop-other
invariant-loop-other g l =
    let alike = is_same_type (g.T.Tree.forest l.query.tree.now) (g.T.Tree.number l.id) in
    (l.count + length (filter alike (map g.T.Tree.number (drop l.other-index l.list))) ≡ length (filter alike (map g.T.Tree.number l.list))) × (l.count ≤ l.other-index)
