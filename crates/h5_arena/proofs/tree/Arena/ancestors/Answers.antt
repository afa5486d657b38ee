use Rattle.std.proofs.Common.{◌∙◌, ◌++◌, ◌-◌, ap, append-nil, arith, map, sym}
use Rattle.std.proofs.lemmas.List.Elements.{All-push}
use Rattle.h5_arena.specs.ArenaModel.{IsHeld, forest_seen, place}
use Rattle.h5_arena.proofs.KinLaws.{none_above, one_up, parent_told}
use Rattle.h5_arena.proofs.tree.Arena.ancestors.Goals as goal

pub returns-in_default-clause-found : goal.returns-in_default-clause-found
returns-in_default-clause-found c =
    let found = map place c.loop-step.found.items in
    let none = parent_told c.args.self.now c.loop-step.at _ (rw c.in_default.is at c.parent.ensures.parent) in
    sym (append-nil found)
    ∙ ap (λ l. found ++ l) (sym (none_above (forest_seen c.args.self.now) (c.len-step-end.result - c.loop-step._step) c.loop-step.at.index none))
    ∙ c.loop-step.invariant.0

pub loop-step-preserved : goal.loop-step-preserved
loop-step-preserved c =
    let above = parent_told c.args.self.now c.loop-step.at _ c.in-Some.ensures.parent in
    rw c.in_ok-push.ensures.items (
      one_up (forest_seen c.args.self.now) c.loop-step.found.items c.loop-step.at c.in-Some.parent c.len-step-end.result c.loop-step._step _ (omega (arith, c.loop-step-test.true)) above c.loop-step.invariant.0,
      All-push (IsHeld c.args.self.now) c.loop-step.found.items c.in-Some.parent c.loop-step.invariant.1 c.in-Some.ensures.held,
      c.in-Some.ensures.held,
    )
