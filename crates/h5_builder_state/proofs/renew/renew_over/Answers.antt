use Rattle.std.proofs.Common.{ap, arith, drop, length, map, reverse, subst, sym, ◌+◌, ◌<◌, ◌∙◌, ◌∷◌, ◌≡◌}
use Rattle.std.proofs.lemmas.Bool.{not-false}
use Rattle.std.proofs.lemmas.List.{drop_more, take_all}
use Rattle.h5_builder_spec.specs.Sound.{Sound}
use Rattle.h5_builder_spec.specs.World.{World, name_in, names_of}
use Rattle.h5_builder_state.proofs.ItemLaws.{length-values}
use Rattle.h5_builder_state.specs.Numbers.{name_number}
use Rattle.h5_builder_state.specs.Summaries.{all_open, summaries}
use Rattle.h5_builder_state.specs.View.{IsKeptOver, elements_of, kept_under, names_under, open_node, world}
use Rattle.h5_builder_state.specs.declared.open_element.Summary.{Summary}
use Rattle.h5_builder_state.proofs.AttributeLaws.{open_length}
use Rattle.h5_builder_state.proofs.OverLaws.{over_alike, over_next, over_whole, same_all}
use Rattle.h5_builder_state.proofs.RenewLaws.{kept_renewed}
use Rattle.h5_builder_state.proofs.WalkLaws.{names_count}
use Rattle.h5_builder_state.proofs.renew.renew_over.Goals as goal

pub get-requires : goal.get-requires
unfolding world
get-requires g c =
    omega (
      arith,
      c.up-test.true,
      c.up.invariant.count,
      ap (λ (w : World). length w.stack) c.up.invariant.world,
      open_length (open_node g.S.TreeSink.node) (elements_of c.up.state),
      length-values c.up.state.open_elems.elements,
    )

pub renew_at-requires-clause-sound : goal.renew_at-requires-clause-sound
renew_at-requires-clause-sound g c = subst Sound (sym c.up.invariant.world) c.requires.sound

pub up-preserved : goal.up-preserved
unfolding world
up-preserved g c =
    let node = g.S.TreeSink.node in
    let f = (g.S.TreeSink.sees c.args.sink.now).forest in
    let items = elements_of c.up.state in
    let x = c.get.result.now in
    let older = c.up.invariant.over.0 in
    let inside : c.up.place < length items = omega (arith, c.up-test.true, c.up.invariant.count, ap (λ (w : World). length w.stack) c.up.invariant.world, open_length (open_node node) items) in
    let here : drop c.up.place items ≡ x ∷ drop (c.up.place + 1) items = drop_more items c.up.place x inside ∙ ap (λ y. y ∷ drop (c.up.place + 1) items) (sym c.get.ensures) in
    let next = over_next node f x (drop (c.up.place + 1) items) older (subst (λ xs. IsKeptOver node f xs older) here c.up.invariant.over.3) in
    record {
      count = c.up.invariant.count;
      place = omega (arith, c.up-test.true);
      world = c.renew_at.ensures.world ∙ c.up.invariant.world;
      kept = c.renew_at.ensures.kept;
      numbers = c.renew_at.ensures.numbers ∙ c.up.invariant.numbers;
      same = c.renew_at.ensures.same ∙ c.up.invariant.same;
      stamped = c.renew_at.ensures.stamped c.up.invariant.stamped;
      over = (
        name_in f (node x.handle) ∷ older,
        ap (λ (s : Summary). s.all) next.0,
        omega (arith, c.up.invariant.over.2),
        subst (λ xs. IsKeptOver node f xs (name_in f (node x.handle) ∷ older)) (sym c.renew_at.ensures.newer) next.1,
      );
    }

pub returns-else-ne-clause-sound : goal.returns-else-ne-clause-sound
unfolding world names_of names_under kept_under
returns-else-ne-clause-sound g c =
    let node = g.S.TreeSink.node in
    let f = (g.S.TreeSink.sees c.args.sink.now).forest in
    let items = elements_of c.up.state in
    let v = world g.S.TreeSink.sees node c.args.sink.now c.up.state in
    let older = c.up.invariant.over.0 in
    let below = names_under g.S.TreeSink.sees node c.args.sink.now c.up.state c.up.place in
    let count : c.open_count-count.result ≡ length items = omega (arith, c.up.invariant.count, ap (λ (w : World). length w.stack) c.up.invariant.world, open_length (open_node node) items) in
    let same = same_all c.up.was c.all_under.result (not-false _ (sym c.ne.ensures ∙ c.if-ne.false)) in
    let alike : all_open older ≡ all_open below = sym c.up.invariant.over.1 ∙ same ∙ c.all_under.ensures.known in
    let long : length older ≡ length below = c.up.invariant.over.2 ∙ sym (names_count g.S.TreeSink.sees node c.args.sink.now c.up.state c.up.place (omega (arith, c.up-test.true, count, open_length (open_node node) items))) in
    record {
      sound = subst Sound (sym c.up.invariant.world) c.requires.sound;
      kept = kept_renewed c.args.state.now.open_elems c.up.state.open_elems (names_of v) c.up.invariant.numbers c.up.invariant.same (omega (arith, c.open_count-count.ensures.few, count))
          (c.requires.numbered ∙ ap (λ (w : World). map (name_number c.args.state.now.open_elems.numbers) (names_of w)) (sym c.up.invariant.world))
          (over_whole node f items c.up.place c.up.invariant.kept (over_alike node f (drop c.up.place items) older below alike long c.up.invariant.over.3));
      stamped = c.up.invariant.stamped;
    }

pub returns-after-up-clause-sound : goal.returns-after-up-clause-sound
unfolding world names_of names_under kept_under
returns-after-up-clause-sound g c =
    let node = g.S.TreeSink.node in
    let f = (g.S.TreeSink.sees c.args.sink.now).forest in
    let items = elements_of c.up.state in
    let v = world g.S.TreeSink.sees node c.args.sink.now c.up.state in
    let count : c.open_count-count.result ≡ length items = omega (arith, c.up.invariant.count, ap (λ (w : World). length w.stack) c.up.invariant.world, open_length (open_node node) items) in
    record {
      sound = subst Sound (sym c.up.invariant.world) c.requires.sound;
      kept = kept_renewed c.args.state.now.open_elems c.up.state.open_elems (names_of v) c.up.invariant.numbers c.up.invariant.same (omega (arith, c.open_count-count.ensures.few, count))
          (c.requires.numbered ∙ ap (λ (w : World). map (name_number c.args.state.now.open_elems.numbers) (names_of w)) (sym c.up.invariant.world))
          (subst (λ xs. reverse (map (λ element. element.summary) xs) ≡ summaries (map (name_in f) (reverse (map (open_node node) xs)))) (take_all c.up.place items (omega (arith, c.up-test.false, count))) c.up.invariant.kept);
      stamped = c.up.invariant.stamped;
    }
