use Rattle.std.proofs.Common.{◌≡◌, drop, map}
use Rattle.std.specs.List.{list_any}
use Rattle.std.specs.Option.{option_map}
use Rattle.h5_selectors.specs.Query.{context, holds_by}
use Rattle.h5_selectors.proofs.holds.holds_of_some.Given as goal

abbrev pub invariant-asked : goal.invariant-asked
invariant-asked g l = list_any (holds_by (context (g.T.Tree.forest l.query.tree.now) l.query.is_quirky (option_map g.T.Tree.number l.query.scope)) l.formula) (map g.T.Tree.number (drop l.element-index l.list)) ≡ list_any (holds_by (context (g.T.Tree.forest l.query.tree.now) l.query.is_quirky (option_map g.T.Tree.number l.query.scope)) l.formula) (map g.T.Tree.number l.list)
