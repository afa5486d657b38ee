use Rattle.std.proofs.Common.{ap, arith, length, map, reverse, subst, sym, ◌<◌, ◌≤◌, ◌^◌, ◌∙◌, ◌≡◌}
use Rattle.std.proofs.lemmas.List.{take_all}
use Rattle.h5_builder_spec.specs.Sound.{Sound}
use Rattle.h5_builder_spec.specs.World.{World, name_in, names_of}
use Rattle.h5_builder_state.specs.Numbers.{name_number}
use Rattle.h5_builder_state.specs.Summaries.{summaries}
use Rattle.h5_builder_state.specs.View.{elements_of, names_under, open_node, world}
use Rattle.h5_builder_state.proofs.AttributeLaws.{open_length}
use Rattle.h5_builder_state.specs.View.{kept_under}
use Rattle.h5_builder_state.proofs.RenewLaws.{kept_renewed}
use Rattle.h5_builder_state.proofs.renew.renew_from.Goals as goal

pub renew_at-requires-clause-sound : goal.renew_at-requires-clause-sound
renew_at-requires-clause-sound g c = subst Sound (sym c.up.invariant.world) c.requires.sound

pub renew_at-requires-clause-place : goal.renew_at-requires-clause-place
renew_at-requires-clause-place g c = subst (λ (w : World). c.up.place < length w.stack) (sym c.up.invariant.world) (omega (arith, c.up-test.true, c.up.invariant.count))

pub up-preserved : goal.up-preserved
up-preserved g c = record {
  count = c.up.invariant.count;
  place = omega (arith, c.up-test.true);
  world = c.renew_at.ensures.world ∙ c.up.invariant.world;
  kept = c.renew_at.ensures.kept;
  numbers = c.renew_at.ensures.numbers ∙ c.up.invariant.numbers;
  same = c.renew_at.ensures.same ∙ c.up.invariant.same;
  stamped = c.renew_at.ensures.stamped c.up.invariant.stamped;
}

pub returns-clause-sound : goal.returns-clause-sound
unfolding world names_of names_under kept_under
returns-clause-sound g c =
    let node = g.S.TreeSink.node in
    let f = (g.S.TreeSink.sees c.args.sink.now).forest in
    let items = elements_of c.up.state in
    let v = world g.S.TreeSink.sees node c.args.sink.now c.up.state in
    let few : length items < 2 ^ 32 = omega (arith, c.open_count-count.ensures.few, c.up.invariant.count, ap (λ (w : World). length w.stack) c.up.invariant.world, open_length (open_node node) items) in
    let count : length items ≤ c.up.place = omega (arith, c.up-test.false, c.up.invariant.count, ap (λ (w : World). length w.stack) c.up.invariant.world, open_length (open_node node) items) in
    record {
      sound = subst Sound (sym c.up.invariant.world) c.requires.sound;
      kept = kept_renewed c.args.state.now.open_elems c.up.state.open_elems (names_of v) c.up.invariant.numbers c.up.invariant.same few (c.requires.numbered ∙ ap (λ (w : World). map (name_number c.args.state.now.open_elems.numbers) (names_of w)) (sym c.up.invariant.world))
          (subst (λ xs. reverse (map (λ element. element.summary) xs) ≡ summaries (map (name_in f) (reverse (map (open_node node) xs)))) (take_all c.up.place items count) c.up.invariant.kept);
      stamped = c.up.invariant.stamped;
    }
