use Rattle.std.proofs.Common.{◌≡◌, ◌-◌}
use Rattle.std.specs.List.{list_any}
use Rattle.std.specs.Option.{option_map}
use Rattle.h5_arena.specs.Kin.{ancestors_within}
use Rattle.h5_selectors.specs.Query.{context, holds_by}
use Rattle.h5_selectors.specs.Ways.{ancestors}
use Rattle.h5_tree.specs.Elements.{elements}
use Rattle.h5_selectors.proofs.holds.holds_above.Given as goal

abbrev pub invariant-upwards : goal.invariant-upwards
invariant-upwards g l =
    let f = g.T.Tree.forest l.query.tree.now in
    let query = (context (g.T.Tree.forest l.query.tree.now) l.query.is_quirky (option_map g.T.Tree.number l.query.scope)) in
    list_any (holds_by query l.formula) (elements f (ancestors_within (l._step-end - l._step) f (g.T.Tree.number l.at))) ≡ list_any (holds_by query l.formula) (ancestors f (g.T.Tree.number l.fn.id))
