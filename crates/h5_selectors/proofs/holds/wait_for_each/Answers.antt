use Rattle.std.proofs.Common.{◌+◌, ap, arith, map, refl, subst, sym, take}
use Rattle.std.specs.List.{list_any}
use Rattle.std.specs.Option.{option_map}
use Rattle.std.proofs.lemmas.List.{take_all}
use Rattle.h5_selectors.specs.Query.{context, holds_by}
use Rattle.h5_selectors.specs.Waiting.{AreAdded, seen, sum_of, tests_by}
use Rattle.h5_selectors.proofs.Waits.{one_more, seen_push}
use Rattle.h5_selectors.proofs.holds.wait_for_each.Goals as goal

pub loop-id-preserved : goal.loop-id-preserved
loop-id-preserved g c =
    let query = (context (g.T.Tree.forest c.args.query.now.tree.now) c.args.query.now.is_quirky (option_map g.T.Tree.number c.args.query.now.scope)) in
    let formula = c.args.formula.now in
    let list = map g.T.Tree.number (take (c.loop-id.id-index + 1) c.args.list.now) in
    subst (AreAdded query (list_any (holds_by query formula) list) (sum_of (tests_by query formula) list) formula (seen g.T.Tree.number c.args.waiting.now.items))
    (sym (seen_push g.T.Tree.number c.loop-id.waiting.items c.push.new.self.items _ c.in_ok-push.ensures.items))
    (one_more g.T.Tree.number query formula c.args.list.now c.loop-id.id-index c.id-item.result _ (seen g.T.Tree.number c.args.waiting.now.items) (seen g.T.Tree.number c.loop-id.waiting.items) (omega (arith, c.loop-id-test.true)) refl (ap g.T.Tree.number c.id-item.is) c.loop-id.invariant)

pub returns : goal.returns
returns g c =
    let query = (context (g.T.Tree.forest c.args.query.now.tree.now) c.args.query.now.is_quirky (option_map g.T.Tree.number c.args.query.now.scope)) in
    let formula = c.args.formula.now in
    let P = λ (ids : _). AreAdded query (list_any (holds_by query formula) (map g.T.Tree.number ids)) (sum_of (tests_by query formula) (map g.T.Tree.number ids)) formula (seen g.T.Tree.number c.args.waiting.now.items) (seen g.T.Tree.number c.loop-id.waiting.items) in
    subst P (take_all c.loop-id.id-index c.args.list.now (omega (arith, c.loop-id-test.false))) c.loop-id.invariant
