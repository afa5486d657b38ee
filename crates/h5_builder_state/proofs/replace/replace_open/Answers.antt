use Rattle.std.proofs.Common.{ap, arith, drop, get_or, length, map, refl, reverse, subst, suc, sym, take, ◌++◌, ◌+◌, ◌-◌, ◌<◌, ◌∙◌, ◌≡◌}
use Rattle.std.specs.List.{All}
use Rattle.std.proofs.lemmas.List.{get_or-map, length-map}
use Rattle.std.proofs.lemmas.List.Elements.{All-map}
use Rattle.std.proofs.lemmas.Simd.{map-map}
use Rattle.h5_builder_spec.specs.Sound.{Sound}
use Rattle.h5_builder_spec.specs.World.{names_of}
use Rattle.h5_builder_spec.proofs.entries.PairLaws.{in_left, in_right}
use Rattle.h5_builder_state.specs.Numbered.{values}
use Rattle.h5_builder_state.specs.Stamps.{AreStamped, MayStandBelow, OpenStamp, stamp_of, stamped_as, stamps_of}
use Rattle.h5_builder_state.specs.View.{IsKeptOver, elements_of, kept_under, names_under, open_node, stack_over, stack_under, with_stack, world}
use Rattle.h5_builder_state.specs.declared.open_element.OpenElement.{OpenElement}
use Rattle.h5_builder_state.specs.declared.open_element.OpenElements.{OpenElements}
use Rattle.h5_builder_state.proofs.ItemLaws.{length-values}
use Rattle.h5_builder_state.proofs.AttributeLaws.{open_length}
use Rattle.h5_builder_state.proofs.OverLaws.{over_cut}
use Rattle.h5_builder_state.proofs.ReplacedLaws.{in_reverse, stack_put}
use Rattle.h5_builder_state.proofs.StampLaws.{stamped_oldest, stamped_replaced}
use Rattle.h5_builder_state.proofs.SummaryLaws.{cut_values, kept_cut, kept_grown}
use Rattle.h5_builder_state.proofs.SummaryLaws as summary
use Rattle.h5_builder_state.proofs.WalkLaws.{names_count}
use Rattle.h5_builder_state.proofs.replace.replace_open.Goals as goal

pub all_under-before-requires-clause-kept : goal.all_under-before-requires-clause-kept
unfolding world names_of names_under kept_under
all_under-before-requires-clause-kept g c =
    summary.kept_under g.S.TreeSink.node (g.S.TreeSink.sees c.args.sink.now).forest (elements_of c.args.state.now) (c.args.place + c.len.result) c.requires.sound.kept.summarized

pub put_all-requires-clause-elements : goal.put_all-requires-clause-elements
unfolding world
put_all-requires-clause-elements g c = λ n i.
    let node = g.S.TreeSink.node in
    let state = c.args.state.now in
    let above = stack_over node state (c.args.place + c.args.handles.len) in
    let put = reverse (map node c.args.handles.items) in
    c.requires.stands.stands.elements n (in_left n (above ++ put) (stack_under node state c.args.place) (in_right n above put (in_reverse n (map node c.args.handles.items) i)))

pub renew_over-requires-clause-sound : goal.renew_over-requires-clause-sound
unfolding world
renew_over-requires-clause-sound g c =
    let node = g.S.TreeSink.node in
    let state = c.args.state.now in
    let w = world g.S.TreeSink.sees node c.args.sink.now state in
    let end = c.args.place + c.args.handles.len in
    subst Sound (sym (c.put_all.ensures.world ∙ ap (λ s. with_stack s w) (stack_put node state c.put_all.new.state c.args.place end (map node c.args.handles.items) c.in-Ok.ensures.ok))) c.requires.stands

pub renew_over-requires-clause-over : goal.renew_over-requires-clause-over
unfolding world names_of names_under
renew_over-requires-clause-over g c =
    let node = g.S.TreeSink.node in
    let f = (g.S.TreeSink.sees c.args.sink.now).forest in
    let items = elements_of c.args.state.now in
    let end = c.args.place + c.len.result in
    let older = names_under g.S.TreeSink.sees node c.args.sink.now c.args.state.now end in
    let newer : drop end (elements_of c.put_all.new.state) ≡ drop end items = subst (λ k. drop (c.args.place + k) (elements_of c.put_all.new.state) ≡ drop (c.args.place + k) items) (sym c.len.ensures) c.in-Ok.ensures.newer in (
      older,
      c.all_under-before.ensures.known,
      names_count g.S.TreeSink.sees node c.args.sink.now c.args.state.now end (omega (arith, c.requires.inside, c.len.ensures)),
      subst (λ xs. IsKeptOver node f xs older) (sym newer) (over_cut node f items end c.requires.sound.kept.summarized),
    )

pub renew_over-requires-clause-numbered : goal.renew_over-requires-clause-numbered
unfolding world names_of
renew_over-requires-clause-numbered g c = c.in-Ok.ensures.numbered

pub returns-in-Ok-clause-ok : goal.returns-in-Ok-clause-ok
unfolding world
returns-in-Ok-clause-ok g c =
    let node = g.S.TreeSink.node in
    let state = c.args.state.now in
    let w = world g.S.TreeSink.sees node c.args.sink.now state in
    let end = c.args.place + c.args.handles.len in
    c.renew_over.ensures.world ∙ c.put_all.ensures.world ∙ ap (λ s. with_stack s w) (stack_put node state c.put_all.new.state c.args.place end (map node c.args.handles.items) c.in-Ok.ensures.ok)

pub returns-in-Err-clause-err : goal.returns-in-Err-clause-err
unfolding world stack_under
returns-in-Err-clause-err g c =
    let node = g.S.TreeSink.node in
    let w = world g.S.TreeSink.sees node c.args.sink.now c.args.state.now in
    let cut = cut_values c.args.state.now.open_elems.elements c.truncate.new.self c.args.place (c.truncate.ensures ∙ c.put_all.ensures.older) in
    ap (with_stack (reverse (map (open_node node) (values c.truncate.new.self)))) c.put_all.ensures.world ∙ ap (λ xs. with_stack (reverse (map (open_node node) xs)) w) cut

pub returns-in-Err-clause-kept : goal.returns-in-Err-clause-kept
unfolding world names_of
returns-in-Err-clause-kept g c =
    let node = g.S.TreeSink.node in
    let f = (g.S.TreeSink.sees c.args.sink.now).forest in
    let old = c.args.state.now.open_elems in
    let cut : OpenElements _ = record { elements = c.truncate.new.self; numbers = old.numbers; last = old.last } in
    let new : OpenElements _ = record { elements = c.truncate.new.self; numbers = c.put_all.new.state.open_elems.numbers; last = c.put_all.new.state.open_elems.last } in
    kept_grown cut new _ refl c.put_all.ensures.stay (kept_cut node f old c.args.place c.requires.sound.kept cut (c.truncate.ensures ∙ c.put_all.ensures.older) refl)

pub get-requires : goal.get-requires
unfolding world
get-requires g c =
    omega (arith, c.requires.some, c.requires.inside, c.len.ensures, open_length (open_node g.S.TreeSink.node) (elements_of c.args.state.now), length-values c.args.state.now.open_elems.elements)

pub renew_over-requires-clause-stamped : goal.renew_over-requires-clause-stamped
unfolding world
renew_over-requires-clause-stamped g c =
    let node = g.S.TreeSink.node in
    let view = λ (o : OpenElement _). stamp_of node o in
    let state = c.args.state.now in
    let old = state.open_elems in
    let items = elements_of state in
    let place = c.args.place in
    let count = c.args.handles.len in
    let last = place + count - 1 in
    let x = c.get.result.now in
    let given = stamped_as node x.stamp in
    let ms = map given c.args.handles.items in
    let next : suc last ≡ place + count = omega (arith, c.requires.some) in
    let inside : last < length items = omega (arith, c.requires.some, c.requires.inside, open_length (open_node node) items) in
    let there : last < length (stamps_of node old) = omega (arith, inside, length-map items view) in
    let here : view x ≡ get_or (stamps_of node old) last (view x) = ap view (c.get.ensures ∙ ap (λ k. get_or items (place + k - 1) x) c.len.ensures) ∙ sym (get_or-map view items last x (view x) inside) in
    let same : All (λ (m : OpenStamp). m.stamp ≡ x.stamp) ms = All-map (λ (m : OpenStamp). m.stamp ≡ x.stamp) given c.args.handles.items (λ k d h. refl) in
    let is : stamps_of node c.put_all.new.state.open_elems ≡ take place (stamps_of node old) ++ (ms ++ drop (suc last) (stamps_of node old)) =
    c.in-Ok.ensures.stamps ∙ ap (λ k. take place (stamps_of node old) ++ (ms ++ drop k (stamps_of node old))) (sym next) in
    let nodes : map node c.args.handles.items ≡ map (λ (o : OpenStamp). o.node) ms = sym (map-map (λ (o : OpenStamp). o.node) given c.args.handles.items) in
    let below = subst (λ ns. All (MayStandBelow node (drop last (stamps_of node old)) ns) state.active_formatting) nodes c.requires.below in
    subst (AreStamped node c.put_all.new.state.open_elems) (sym c.put_all.ensures.listed)
    (stamped_replaced node old c.put_all.new.state.open_elems state.active_formatting place last (view x) ms (omega (arith, c.requires.some)) there here same is c.put_all.ensures.last below c.requires.sound.stamped)

pub returns-in-Err-clause-stamped : goal.returns-in-Err-clause-stamped
returns-in-Err-clause-stamped g c =
    let node = g.S.TreeSink.node in
    let old = c.args.state.now.open_elems in
    let cut : OpenElements _ = record { elements = c.truncate.new.self; numbers = c.put_all.new.state.open_elems.numbers; last = c.put_all.new.state.open_elems.last } in
    subst (AreStamped node cut) (sym c.put_all.ensures.listed)
    (stamped_oldest node old cut c.args.state.now.active_formatting c.args.place (cut_values old.elements c.truncate.new.self c.args.place (c.truncate.ensures ∙ c.put_all.ensures.older)) c.put_all.ensures.last c.requires.sound.stamped)
