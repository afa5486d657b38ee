use Rattle.std.proofs.Common.{◌≡◌, drop, map}
use Rattle.std.specs.List.{filter}
use Rattle.std.specs.Option.{option_map}
use Rattle.h5_selectors.specs.Query.{context, matches_by}
use Rattle.h5_selectors.proofs.selector.first_matching.Given as goal

abbrev pub invariant-loop-element : goal.invariant-loop-element
invariant-loop-element g l =
    let test = matches_by (context (g.T.Tree.forest l.query.tree.now) l.query.is_quirky (option_map g.T.Tree.number l.query.scope)) l.list in
    filter test (map g.T.Tree.number (drop l.element-index l.elements)) ≡ filter test (map g.T.Tree.number l.elements)
