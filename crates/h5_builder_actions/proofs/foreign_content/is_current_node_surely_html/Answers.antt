use Rattle.std.proofs.Common.{◌≡◌, ◌∷◌, ◌+◌, ◌-◌, ◌<◌, ap, length, option_map, sym, ◌∙◌, arith}
use Rattle.std.proofs.lemmas.Bool.{ltb-true}
use Rattle.h5_builder_spec.specs.insertion.Foreign.{adjusted_of}
use Rattle.h5_builder_state.specs.View.{stack_under, world}
use Rattle.h5_builder_state.proofs.WalkLaws.{stack_count, stack_more}
use Rattle.h5_builder_actions.proofs.CurrentLaws.{known_takes, newest_above, newest_alone}
use Rattle.h5_builder_actions.proofs.foreign_content.is_current_node_surely_html.Goals as goal

pub returns-then-known : goal.returns-then-known
unfolding world
returns-then-known g c h t =
    let node = g.S.TreeSink.node in
    let w = world g.S.TreeSink.sees node c.args.sink.now c.args.state.now in
    let count = c.open_count-count.result in
    let more : 1 < count = ltb-true _ _ h in
    let top : count - 1 + 1 ≡ count = omega (arith, more) in
    let inside : count - 1 < length w.stack = omega (arith, more, c.open_count-count.ensures.count) in
    let first = stack_more node c.args.state.now (count - 1) inside in
    let older = stack_under node c.args.state.now (count - 1) in
    let stack = sym c.open_count-count.ensures.stack ∙ ap (stack_under node c.args.state.now) (sym top) ∙ first.1 in
    known_takes g.S.TreeSink.choices t w.forest w.context w.stack first.0
    (ap (adjusted_of w.context) stack ∙ newest_above w.context first.0 older (omega (arith, more, stack_count node c.args.state.now (count - 1) (omega (arith, inside)))))
    (sym (c.is_html_at-known.ensures first.0 older first.1) ∙ c.if-known.true)

pub returns-in-None : goal.returns-in-None
unfolding world
returns-in-None g c h t =
    let node = g.S.TreeSink.node in
    let w = world g.S.TreeSink.sees node c.args.sink.now c.args.state.now in
    let count = c.open_count-count.result in
    let top : count - 1 + 1 ≡ count = omega (arith, c.if-count-eq0.false) in
    let inside : count - 1 < length w.stack = omega (arith, c.if-count-eq0.false, c.open_count-count.ensures.count) in
    let first = stack_more node c.args.state.now (count - 1) inside in
    let older = stack_under node c.args.state.now (count - 1) in
    let stack = sym c.open_count-count.ensures.stack ∙ ap (stack_under node c.args.state.now) (sym top) ∙ first.1 in
    known_takes g.S.TreeSink.choices t w.forest w.context w.stack first.0
    (ap (adjusted_of w.context) stack ∙ ap (λ context. adjusted_of (option_map node context) (first.0 ∷ older)) c.in-None.is ∙ newest_alone first.0 older)
    (sym (c.is_html_at-known.ensures first.0 older first.1) ∙ h)
