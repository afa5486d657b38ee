use Rattle.std.proofs.Common.{map, take}
use Rattle.std.specs.List.{list_any}
use Rattle.std.specs.Option.{option_map}
use Rattle.h5_selectors.specs.Query.{context, holds_by}
use Rattle.h5_selectors.specs.Waiting.{AreAdded, seen, sum_of, tests_by}
use Rattle.h5_selectors.proofs.holds.wait_for_each.Given as goal

abbrev pub invariant-loop-id : goal.invariant-loop-id
invariant-loop-id g l =
    let c = (context (g.T.Tree.forest l.query.tree.now) l.query.is_quirky (option_map g.T.Tree.number l.query.scope)) in
    AreAdded c (list_any (holds_by c l.formula) (map g.T.Tree.number (take l.id-index l.list))) (sum_of (tests_by c l.formula) (map g.T.Tree.number (take l.id-index l.list))) l.formula (seen g.T.Tree.number l.fn.waiting.items) (seen g.T.Tree.number l.waiting.items)
