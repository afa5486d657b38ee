use Rattle.std.proofs.Common.{◌≡◌, ◌<◌, ◌+◌, ◌-◌, ◌∷◌, suc, length, map, ap, sym, subst, ◌∙◌, inl, inr, refl, arith}
use Rattle.h5_builder_spec.specs.formatting.InnerLoop.{picked}
use Rattle.h5_builder_spec.proofs.entries.PairLaws.{before_first}
use Rattle.h5_builder_spec.specs.formatting.AdoptionAgency.{IsLoose}
use Rattle.h5_builder_spec.specs.stack.Order.{IsIn}
use Rattle.h5_builder_spec.proofs.adoption.AdoptionForest.{kinds_refl, kinds_trans, loose_block}
use Rattle.h5_builder_state.specs.Steps.{world_of}
use Rattle.h5_builder_state.specs.View.{elements_of, open_node, world}
use Rattle.h5_builder_state.proofs.AttributeLaws.{open_length}
use Rattle.h5_builder_actions.specs.Hanging.{nest_of, open_between}
use Rattle.h5_builder_actions.proofs.CloneLaws.{newest_same}
use Rattle.h5_builder_actions.proofs.NestLaws.{between_more, between_none, grown, grown_first, grown_more, grown_none, has_older, picked_gone, under_more}
use Rattle.h5_builder_actions.proofs.NodeLaws.{open_nodes}
use Rattle.h5_builder_actions.proofs.clones.make_clones.Goals.{then-near-test+else-left-gt0, else-near-test}
use Rattle.h5_builder_actions.proofs.clones.make_clones.Goals as goal

pub clone_handle-outermost-requires : goal.clone_handle-outermost-requires
unfolding world
clone_handle-outermost-requires g c = open_nodes (world_of g.S.TreeSink c.args.sink.now c.args.state.now) c.requires.sound.sound (g.S.TreeSink.node c.handle_at.result.now) c.handle_at.ensures.open

pub near-init : goal.near-init
unfolding world
near-init g c =
    let node = g.S.TreeSink.node in
    let f = (g.S.TreeSink.sees c.args.sink.now).forest in
    let w = world_of g.S.TreeSink c.args.sink.now c.args.state.now in
    let inside : c.args.block < length (elements_of c.args.state.now) = omega (arith, c.requires.block, open_length (open_node node) (elements_of c.args.state.now)) in
    let older = has_older node c.args.state.now (node c.handle_at.result.now) c.args.block (omega (arith, c.requires.first, c.requires.between)) inside c.handle_at.ensures.stack in
    record {
      above = c.requires.between;
      inside = omega arith;
      sound = c.requires.sound;
      kinds = kinds_refl f;
      quiet = refl;
      quirks = refl;
      nodes = λ n i. absurd (subst (λ xs. IsIn n (map node xs)) c.new-made.ensures.items i);
      loose = λ n rest e.
          let same = newest_same _ n _ _ rest c.handle_at.ensures.stack e in
          subst (λ m. IsLoose f w.stack m (node c.clone_handle-outermost.result)) same
          (subst (IsLoose f w.stack (node c.handle_at.result.now)) (sym c.clone_handle-outermost.ensures) (loose_block f w.stack (node c.handle_at.result.now) c.requires.sound.sound.stands (before_first _ _ w.stack older.before)));
      left = λ n rest e.
          grown_first g.S.TreeSink.choices w.formatting _ (map node c.new-made.result.items) (node c.clone_handle-outermost.result) n f (ap (map node) c.new-made.ensures.items)
          (c.clone_handle-outermost.ensures ∙ newest_same _ n _ _ rest c.handle_at.ensures.stack e);
    }

pub clone_at-requires-clause-place : goal.clone_at-requires-clause-place
unfolding world
clone_at-requires-clause-place g c = omega (arith, c.near.invariant.inside, c.requires.block)

pub clone_at-requires-clause-may : goal.clone_at-requires-clause-may
unfolding world
clone_at-requires-clause-may g c =
    let node = g.S.TreeSink.node in
    let inside : c.args.block < length (elements_of c.args.state.now) = omega (arith, c.requires.block, open_length (open_node node) (elements_of c.args.state.now)) in
    let older = has_older node c.args.state.now (node c.handle_at.result.now) c.args.block (omega (arith, c.requires.first, c.requires.between)) inside c.handle_at.ensures.stack in
    record { block = node c.handle_at.result.now; older = older.older; under = older.before; loose = c.near.invariant.loose (node c.handle_at.result.now) _ c.handle_at.ensures.stack }

pub near-preserved : goal.near-preserved
unfolding world
near-preserved g c =
    let node = g.S.TreeSink.node in
    let choices = g.S.TreeSink.choices in
    let state = c.args.state.now in
    let first = c.args.first in
    let w = world_of g.S.TreeSink c.args.sink.now state in
    let l = w.formatting in
    let place = c.near.place - 1 in
    let nearer : first < c.near.place = omega (arith, c.near-test.true) in
    let more : place + 1 ≡ c.near.place = omega (arith, nearer) in
    let fewer : suc (c.near.left - 1) ≡ c.near.left = omega (arith, c.if-left-gt0.true) in
    let under = under_more node state place (omega (arith, nearer, c.near.invariant.inside, c.requires.block, open_length (open_node node) (elements_of state))) in
    let between : open_between node state first c.near.place ≡ under.element ∷ open_between node state first place =
    ap (open_between node state first) (sym more) ∙ between_more node state first place under.element (omega (arith, nearer)) under.step in
    let old = nest_of node (g.S.TreeSink.sees c.near.sink).forest c.near.clones in
    record {
      above = omega (arith, nearer);
      inside = omega (arith, c.near.invariant.inside);
      sound = c.clone_at.ensures.sound;
      kinds = kinds_trans (g.S.TreeSink.sees c.args.sink.now).forest (g.S.TreeSink.sees c.near.sink).forest (g.S.TreeSink.sees c.clone_at.new.sink).forest c.near.invariant.kinds c.clone_at.ensures.kinds;
      quiet = c.clone_at.ensures.quiet ∙ c.near.invariant.quiet;
      quirks = c.in_ok-clone_at.ensures.quirks ∙ c.near.invariant.quirks;
      nodes = c.in_ok-clone_at.ensures.nodes c.near.invariant.nodes;
      loose = λ n older e. c.in_ok-clone_at.ensures.loose n (c.near.invariant.loose n older e);
      left = λ n older e.
          ap (grown choices l (picked (c.near.left - 1) l (open_between node state first place))) (c.in_ok-clone_at.ensures.done under.element _ under.step)
          ∙ sym (grown_more choices l under.element (c.near.left - 1) (open_between node state first place) old)
          ∙ ap (λ k. grown choices l (picked k l (under.element ∷ open_between node state first place)) old) fewer
          ∙ ap (λ ms. grown choices l (picked c.near.left l ms) old) (sym between)
          ∙ c.near.invariant.left n older e;
    }

pub returns-clause-done : goal.returns-clause-done
unfolding world
returns-clause-done g c = λ n older e.
    let node = g.S.TreeSink.node in
    let choices = g.S.TreeSink.choices in
    let state = c.args.state.now in
    let l = (world_of g.S.TreeSink c.args.sink.now state).formatting in
    let old = nest_of node (g.S.TreeSink.sees c.near.sink).forest c.near.clones in
    let gone : picked c.near.left l (open_between node state c.args.first c.near.place) ≡ _ = picked_gone c.near.left l (open_between node state c.args.first c.near.place)
    (elim c.near-test.branch [
      | then-near-test+else-left-gt0 t ↦ inl (omega (arith, t.if-left-gt0))
      | else-near-test t ↦ inr (between_none node state c.args.first c.near.place (omega (arith, t.near-test)))
    ]) in
    sym (grown_none choices l old) ∙ ap (λ ms. grown choices l ms old) (sym gone) ∙ c.near.invariant.left n older e
