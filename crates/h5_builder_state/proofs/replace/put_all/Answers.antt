use Rattle.std.proofs.Common.{[], append_assoc, ap, arith, drop, inr, length, map, refl, subst, sym, take, ◌++◌, ◌+◌, ◌<◌, ◌∙◌, ◌∷◌, ◌≡◌, ℕ}
use Rattle.std.proofs.lemmas.Grind.{drop_more_same}
use Rattle.std.proofs.lemmas.List.{append-nil, drop-map, map-append, nil_from_length, take-append-drop, take-map}
use Rattle.std.specs.Vec.Iter.{into_iter_items}
use Rattle.h5_interface.specs.Forest.{IsElement}
use Rattle.h5_builder_spec.specs.World.{names_of}
use Rattle.h5_builder_spec.specs.stack.Order.{IsIn}
use Rattle.h5_builder_state.proofs.ItemLaws.{length-values}
use Rattle.h5_builder_state.specs.Stamps.{stamp_of, stamped_as}
use Rattle.h5_builder_state.specs.View.{elements_of, kept_under, names_under, open_node, with_stack, world}
use Rattle.h5_builder_state.specs.declared.open_element.OpenElement.{OpenElement}
use Rattle.h5_builder_state.proofs.AttributeLaws.{open_length}
use Rattle.h5_builder_state.proofs.ReplacedLaws.{put_count, put_high, put_kept, put_low, put_numbered, put_older, put_stamp}
use Rattle.h5_builder_state.proofs.SummaryLaws as summary
use Rattle.h5_builder_state.proofs.replace.put_all.Goals as goal

pub loop-handle-init : goal.loop-handle-init
unfolding world names_of names_under kept_under
loop-handle-init g c =
    let node = g.S.TreeSink.node in
    let f = (g.S.TreeSink.sees c.args.sink.now).forest in
    let items = elements_of c.args.state.now in
    let all = c.into_iter-handle-iterator.ensures.into_iter_gives.0 in
    record {
      place = omega (arith, ap (λ xs. length xs) all);
      above = omega arith;
      elements = subst (λ xs. (n : ℕ) → IsIn n (map node xs) → IsElement f n) (sym all) c.requires.elements;
      put = ap (λ xs. map (open_node node) (take c.args.first items) ++ map node xs) all;
      stamps = ap (λ xs. map (λ (o : OpenElement _). stamp_of node o) (take c.args.first items) ++ map (stamped_as node c.args.stamp) xs) all;
      newer = refl;
      count = refl;
      kept = summary.kept_under node f items c.args.first c.requires.sound.kept.summarized;
      numbered = c.requires.sound.kept.numbered;
      older = refl;
      last = refl;
      listed = refl;
      stay = λ name number h. h;
      world = refl;
    }

pub returns-in_err-put_at-clause-stay : goal.returns-in_err-put_at-clause-stay
returns-in_err-put_at-clause-stay g c = λ name number h. c.put_at.ensures.stay name number (c.loop-handle.invariant.stay name number h)

pub loop-handle-preserved : goal.loop-handle-preserved
unfolding world names_under kept_under
loop-handle-preserved g c =
    let node = g.S.TreeSink.node in
    let f = (g.S.TreeSink.sees c.args.sink.now).forest in
    let n = node c.in-Some.handle in
    let place = c.loop-handle.place in
    let old = c.loop-handle.state.open_elems in
    let new = c.put_at.new.state.open_elems in
    let items = elements_of c.loop-handle.state in
    let left = into_iter_items c.loop-handle.handle-iterator in
    let rest = into_iter_items c.next.new.self in
    let steps : left ≡ c.in-Some.handle ∷ rest = c.in-Some.ensures.steps.0 in
    let one_less : length left ≡ length rest + 1 = omega (arith, ap (λ xs. length xs) steps) in
    let inside : place < length items =
    omega (
      arith,
      one_less,
      c.loop-handle.invariant.place,
      c.loop-handle.invariant.count,
      c.requires.inside,
      c.args.handles.ok.0,
      open_length (open_node node) (elements_of c.args.state.now),
      length-values c.args.state.now.open_elems.elements,
      length-values old.elements,
    ) in
    let put = c.in_ok-put_at.ensures.ok in
    let view = λ (o : OpenElement _). stamp_of node o in
    let given = stamped_as node c.args.stamp in
    record {
      place = omega (arith, c.loop-handle.invariant.place, one_less);
      above = omega (arith, c.loop-handle.invariant.above);
      elements = λ m i. c.loop-handle.invariant.elements m (subst (λ xs. IsIn m (map node xs)) (sym steps) (inr i));
      put = ap (λ xs. xs ++ map node rest) (put_low node f old new n place inside put) ∙ append_assoc (map (open_node node) (take place items)) (n ∷ []) (map node rest)
          ∙ ap (λ xs. map (open_node node) (take place items) ++ map node xs) (sym steps) ∙ c.loop-handle.invariant.put;
      stamps = ap (λ xs. xs ++ map given rest) (put_stamp node f old new n place inside put) ∙ append_assoc (map view (take place items)) (given c.in-Some.handle ∷ []) (map given rest)
          ∙ ap (λ xs. map view (take place items) ++ map given xs) (sym steps) ∙ c.loop-handle.invariant.stamps;
      newer = put_high node f old new n place inside put ∙ drop_more_same items (elements_of c.args.state.now) place c.loop-handle.invariant.newer;
      count = put_count node f old new n place inside put ∙ c.loop-handle.invariant.count;
      kept = put_kept node f old new n place inside put c.loop-handle.invariant.kept;
      numbered = put_numbered node f old new n place inside put c.put_at.ensures.stay c.loop-handle.invariant.numbered;
      older = put_older node f old new n place inside put c.args.first c.loop-handle.invariant.above ∙ c.loop-handle.invariant.older;
      last = c.put_at.ensures.last ∙ c.loop-handle.invariant.last;
      listed = c.put_at.ensures.listed ∙ c.loop-handle.invariant.listed;
      stay = λ name number h. c.put_at.ensures.stay name number (c.loop-handle.invariant.stay name number h);
      world = c.put_at.ensures.world ∙ ap (with_stack (world g.S.TreeSink.sees node c.args.sink.now c.put_at.new.state).stack) c.loop-handle.invariant.world;
    }

pub returns-clause-ok : goal.returns-clause-ok
returns-clause-ok g c =
    let node = g.S.TreeSink.node in
    let first = c.args.first in
    let items = elements_of c.loop-handle.state in
    let before = elements_of c.args.state.now in
    let place = c.loop-handle.place in
    let rest = c.loop-handle.handle-iterator.rest in
    let none : rest.items ≡ [] = nil_from_length rest.items (omega (arith, rest.ok.0, c.in-None.ensures.steps.0)) in
    let here : place ≡ first + c.args.handles.len = omega (arith, c.loop-handle.invariant.place, ap (λ xs. length xs) none, c.args.handles.ok.0) in
    let low : map (open_node node) (take place items) ≡ map (open_node node) (take first before) ++ map node c.args.handles.items =
    sym (append-nil (map (open_node node) (take place items))) ∙ ap (λ xs. map (open_node node) (take place items) ++ map node xs) (sym none) ∙ c.loop-handle.invariant.put in
    let high : drop place items ≡ drop (first + c.args.handles.len) before = c.loop-handle.invariant.newer ∙ ap (λ k. drop k before) here in
    ap (map (open_node node)) (sym (take-append-drop place items)) ∙ map-append (open_node node) (take place items) (drop place items) ∙ ap (λ z. z ++ map (open_node node) (drop place items)) low
    ∙ ap (λ xs. (map (open_node node) (take first before) ++ map node c.args.handles.items) ++ map (open_node node) xs) high
    ∙ append_assoc (map (open_node node) (take first before)) (map node c.args.handles.items) (map (open_node node) (drop (first + c.args.handles.len) before))

pub returns-clause-stamps : goal.returns-clause-stamps
returns-clause-stamps g c =
    let node = g.S.TreeSink.node in
    let view = λ (o : OpenElement _). stamp_of node o in
    let given = stamped_as node c.args.stamp in
    let first = c.args.first in
    let items = elements_of c.loop-handle.state in
    let before = elements_of c.args.state.now in
    let place = c.loop-handle.place in
    let rest = c.loop-handle.handle-iterator.rest in
    let none : rest.items ≡ [] = nil_from_length rest.items (omega (arith, rest.ok.0, c.in-None.ensures.steps.0)) in
    let here : place ≡ first + c.args.handles.len = omega (arith, c.loop-handle.invariant.place, ap (λ xs. length xs) none, c.args.handles.ok.0) in
    let low : map view (take place items) ≡ take first (map view before) ++ map given c.args.handles.items =
    sym (append-nil (map view (take place items))) ∙ ap (λ xs. map view (take place items) ++ map given xs) (sym none) ∙ c.loop-handle.invariant.stamps
    ∙ ap (λ z. z ++ map given c.args.handles.items) (sym (take-map view first before)) in
    let high : map view (drop place items) ≡ drop (first + c.args.handles.len) (map view before) =
    ap (map view) (c.loop-handle.invariant.newer ∙ ap (λ k. drop k before) here) ∙ sym (drop-map view (first + c.args.handles.len) before) in
    ap (map view) (sym (take-append-drop place items)) ∙ map-append view (take place items) (drop place items) ∙ ap (λ z. z ++ map view (drop place items)) low
    ∙ ap (λ z. (take first (map view before) ++ map given c.args.handles.items) ++ z) high
    ∙ append_assoc (take first (map view before)) (map given c.args.handles.items) (drop (first + c.args.handles.len) (map view before))

pub returns-in_err-put_at-clause-last : goal.returns-in_err-put_at-clause-last
returns-in_err-put_at-clause-last g c = c.put_at.ensures.last ∙ c.loop-handle.invariant.last

pub returns-in_err-put_at-clause-listed : goal.returns-in_err-put_at-clause-listed
returns-in_err-put_at-clause-listed g c = c.put_at.ensures.listed ∙ c.loop-handle.invariant.listed
