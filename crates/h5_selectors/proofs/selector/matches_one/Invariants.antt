use Rattle.std.proofs.Common.{◌≡◌, drop}
use Rattle.std.specs.Option.{option_map}
use Rattle.h5_selectors.specs.Query.{context, matches_by}
use Rattle.h5_selectors.proofs.selector.matches_one.Given as goal

abbrev pub invariant-loop-formula : goal.invariant-loop-formula
invariant-loop-formula g l =
    let c = (context (g.T.Tree.forest l.query.tree.now) l.query.is_quirky (option_map g.T.Tree.number l.query.scope)) in
    matches_by c (drop l.formula-index l.list) (g.T.Tree.number l.id) ≡ matches_by c l.list (g.T.Tree.number l.id)
