use Rattle.std.proofs.Common.{ap, arith, length, sym, ◌+◌, ◌-◌, ◌<◌, ◌∙◌, ◌≡◌}
use Rattle.h5_builder_spec.specs.formatting.FormattingList.{nodes_of}
use Rattle.h5_builder_spec.specs.stack.Order.{is_in}
use Rattle.h5_builder_state.specs.View.{listed_node, world}
use Rattle.h5_builder_state.specs.Listed.{entry_of}
use Rattle.h5_builder_state.proofs.ListWalkLaws.{under, under_all, under_more}
use Rattle.h5_builder_actions.specs.View.{list_under}
use Rattle.h5_builder_actions.proofs.ListLaws.{entries_cut}
use Rattle.h5_builder_actions.proofs.NodeLaws.{entry_in, entry_is_node, listed_nodes}
use Rattle.h5_builder_actions.proofs.NamedLaws.{is_here, is_older, passed_others}
use Rattle.h5_builder_actions.proofs.questions.is_listed.Goals as goal

pub down-init : goal.down-init
unfolding world list_under
down-init g c =
    let node = g.S.TreeSink.node in
    let f = (g.S.TreeSink.sees c.args.sink.now).forest in
    let n = node c.args.handle.now in
    let items = c.args.state.now.active_formatting in
    let passed = passed_others (listed_node node) f c.args.name.now n c.requires.named items c.requires.sound.sound.listed c.pass_others-place.result c.len.result c.pass_others-place.ensures.within (omega (arith, c.len.ensures)) c.pass_others-place.ensures.others in
    record {
      place = omega (arith, c.pass_others-place.ensures.within, c.len.ensures);
      left = passed ∙ ap (λ l. is_in n (nodes_of l)) (under_all (listed_node node) items c.len.result c.len.ensures);
    }

pub is_entry_of-requires-clause-entry : goal.is_entry_of-requires-clause-entry
unfolding world
is_entry_of-requires-clause-entry g c =
    let node = g.S.TreeSink.node in
    let w = world g.S.TreeSink.sees node c.args.sink.now c.args.state.now in
    let items = c.args.state.now.active_formatting in
    let place : _ = c.down.place - 1 in
    let x = c.get.result.now in
    let there : place < length items = omega (arith, c.down-test.true, c.down.invariant.place) in
    entry_is_node w.forest (nodes_of w.formatting) (entry_of (listed_node node) x) (listed_nodes w c.requires.sound.sound)
    (λ n t e. entry_in w.formatting _ _ (entry_of (listed_node node) x) n t (entries_cut (listed_node node) items place x there c.get.ensures) e)

pub returns-then-is_entry_of : goal.returns-then-is_entry_of
unfolding world list_under
returns-then-is_entry_of g c =
    let node = g.S.TreeSink.node in
    let n = node c.args.handle.now in
    let items = c.args.state.now.active_formatting in
    let place : _ = c.down.place - 1 in
    let x = c.get.result.now in
    let up : c.down.place ≡ place + 1 = omega (arith, c.down-test.true) in
    let there : place < length items = omega (arith, up, c.down.invariant.place) in
    sym (sym c.down.invariant.left ∙ ap (λ k. is_in n (nodes_of (under (listed_node node) items k))) up ∙ ap (λ l. is_in n (nodes_of l)) (under_more (listed_node node) items place x there c.get.ensures)
    ∙ is_here n (entry_of (listed_node node) x) (under (listed_node node) items place) (sym c.is_entry_of.ensures ∙ c.if-is_entry_of.true))

pub down-preserved : goal.down-preserved
unfolding world list_under
down-preserved g c =
    let node = g.S.TreeSink.node in
    let f = (g.S.TreeSink.sees c.args.sink.now).forest in
    let n = node c.args.handle.now in
    let items = c.args.state.now.active_formatting in
    let place : _ = c.down.place - 1 in
    let x = c.get.result.now in
    let up : c.down.place ≡ place + 1 = omega (arith, c.down-test.true) in
    let there : place < length items = omega (arith, up, c.down.invariant.place) in
    let passed = passed_others (listed_node node) f c.args.name.now n c.requires.named items c.requires.sound.sound.listed c.pass_others-place-in-down.result place c.pass_others-place-in-down.ensures.within (omega (arith, there)) c.pass_others-place-in-down.ensures.others in
    record {
      place = omega (arith, c.pass_others-place-in-down.ensures.within, there);
      left = passed ∙ sym (is_older n (entry_of (listed_node node) x) (under (listed_node node) items place) (sym c.is_entry_of.ensures ∙ c.if-is_entry_of.false))
          ∙ ap (λ l. is_in n (nodes_of l)) (sym (under_more (listed_node node) items place x there c.get.ensures)) ∙ ap (λ k. is_in n (nodes_of (under (listed_node node) items k))) (sym up) ∙ c.down.invariant.left;
    }

pub returns : goal.returns
unfolding world list_under
returns g c =
    let node = g.S.TreeSink.node in
    let n = node c.args.handle.now in
    let items = c.args.state.now.active_formatting in
    let zero : c.down.place ≡ 0 = omega (arith, c.down-test.false) in
    ap (λ k. is_in n (nodes_of (under (listed_node node) items k))) (sym zero) ∙ c.down.invariant.left
