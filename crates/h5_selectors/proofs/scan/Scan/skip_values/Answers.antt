use Rattle.std.proofs.Common.{◌≡◌, ◌∙◌, ◌-◌, None, Some, arith, length, reverse, rules, sym}
use Rattle.h5_selectors.proofs.Pieces.{components_done, components_more, components_stop}
use Rattle.h5_selectors.specs.Tokens.{component_at, reading}
use Rattle.h5_selectors.proofs.scan.Scan.skip_values.Goals as goal

pub returns-then-not-branch : goal.returns-then-not-branch
returns-then-not-branch c =
    let missing = reverse c.loop-step.missing.items in
    let e : component_at missing c.loop-step.self.rest.now ≡ None = search rules in
    let same : c.skip_component.new.self.rest.now ≡ c.loop-step.self.rest.now = search rules in
    same ∙ sym (components_stop (length c.args.self.now.rest.now - c.loop-step._step) missing c.loop-step.self.rest.now e) ∙ c.loop-step.invariant

pub loop-step-preserved : goal.loop-step-preserved
loop-step-preserved c =
    let missing = reverse c.loop-step.missing.items in
    let next = reading (reverse c.skip_component.new.missing.items) c.skip_component.new.self.rest.now in
    let e : component_at missing c.loop-step.self.rest.now ≡ Some next = search rules in
    sym (components_more (length c.args.self.now.rest.now) c.loop-step._step missing c.loop-step.self.rest.now next (omega (arith, c.loop-step-test.true)) e) ∙ c.loop-step.invariant

pub returns : goal.returns
returns c =
    sym (components_done (length c.args.self.now.rest.now) c.loop-step._step (reverse c.loop-step.missing.items) c.loop-step.self.rest.now (omega (arith, c.loop-step-test.false))) ∙ c.loop-step.invariant
