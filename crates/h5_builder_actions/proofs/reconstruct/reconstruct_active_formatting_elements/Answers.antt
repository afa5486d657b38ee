use Rattle.std.proofs.Common.{◌≡◌, ◌+◌, ◌<◌, ap, arith, length, refl, subst, sym, ◌∙◌}
use Rattle.h5_builder_spec.specs.World.{World}
use Rattle.h5_builder_state.specs.View.{listed_node, world}
use Rattle.h5_builder_actions.proofs.ListLaws.{length_entries}
use Rattle.h5_builder_actions.proofs.RenewLaws.{IsPartly, partly_all, partly_many, partly_more, partly_none, partly_within}
use Rattle.h5_builder_actions.proofs.reconstruct.reconstruct_active_formatting_elements.Goals as goal

pub loop-place-init : goal.loop-place-init
loop-place-init g c =
    let w = world g.S.TreeSink.sees g.S.TreeSink.node c.args.sink.now c.args.state.now in
    let choices = g.S.TreeSink.choices in
    record {
      sound = c.count_staying-first.ensures.sound;
      quiet = refl;
      partly = subst (IsPartly choices w c.count_staying-first.result) (sym c.count_staying-first.ensures.world)
          (subst (λ i. IsPartly choices w i w) (sym c.count_staying-first.ensures.count) (partly_none choices w));
    }

pub make_anew-requires-clause-place : goal.make_anew-requires-clause-place
unfolding world
make_anew-requires-clause-place g c =
    let node = g.S.TreeSink.node in
    let w = world g.S.TreeSink.sees node c.args.sink.now c.args.state.now in
    let v = world g.S.TreeSink.sees node c.loop-place.sink c.loop-place.state in
    let same = partly_many g.S.TreeSink.choices w v c.loop-place.place c.loop-place.invariant.partly in
    let still = ap (λ (u : World). length u.formatting) c.count_staying-first.ensures.world in
    let many = length_entries (listed_node node) c.count_staying-first.new.state.active_formatting in
    omega (arith, c.loop-place-test.true, c.len-place-end.ensures, same, still, many)

pub loop-place-preserved : goal.loop-place-preserved
unfolding world
loop-place-preserved g c =
    let node = g.S.TreeSink.node in
    let choices = g.S.TreeSink.choices in
    let w = world g.S.TreeSink.sees node c.args.sink.now c.args.state.now in
    let v = world g.S.TreeSink.sees node c.loop-place.sink c.loop-place.state in
    let still = ap (λ (u : World). length u.formatting) c.count_staying-first.ensures.world in
    let many = length_entries (listed_node node) c.count_staying-first.new.state.active_formatting in
    let within : c.loop-place.place < length w.formatting = omega (arith, c.loop-place-test.true, c.len-place-end.ensures, still, many) in
    record {
      sound = c.make_anew.ensures.sound;
      quiet = c.make_anew.ensures.quiet ∙ c.loop-place.invariant.quiet;
      partly = subst (IsPartly choices w (c.loop-place.place + 1)) (sym c.in_ok-make_anew.ensures.world) (partly_more choices w v c.loop-place.place within c.loop-place.invariant.partly);
    }

pub returns : goal.returns
unfolding world
returns g c =
    let node = g.S.TreeSink.node in
    let choices = g.S.TreeSink.choices in
    let w = world g.S.TreeSink.sees node c.args.sink.now c.args.state.now in
    let v = world g.S.TreeSink.sees node c.loop-place.sink c.loop-place.state in
    let still = ap (λ (u : World). length u.formatting) c.count_staying-first.ensures.world in
    let many = length_entries (listed_node node) c.count_staying-first.new.state.active_formatting in
    let within = partly_within choices w v c.loop-place.place c.loop-place.invariant.partly in
    let all : c.loop-place.place ≡ length w.formatting = omega (arith, c.loop-place-test.false, c.len-place-end.ensures, still, many, within) in
    record {
      world = partly_all choices w v (subst (λ i. IsPartly choices w i v) all c.loop-place.invariant.partly);
      quiet = c.loop-place.invariant.quiet;
      sound = c.loop-place.invariant.sound;
    }
