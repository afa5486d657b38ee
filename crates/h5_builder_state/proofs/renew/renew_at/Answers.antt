use Rattle.std.proofs.Common.{ℕ, refl, ap, arith, drop, length, map, reverse, sym, subst, take, ◌+◌, ◌<◌, ◌∙◌, ◌≡◌}
use Rattle.std.proofs.Math.Seq.{map-set_same}
use Rattle.std.proofs.lemmas.List.{drop-set-lt}
use Rattle.h5_interface.specs.Forest.{IsElement}
use Rattle.h5_builder_spec.specs.World.{name_in}
use Rattle.h5_builder_spec.proofs.changes.SoundLaws.{element_is_node}
use Rattle.h5_builder_state.proofs.ItemLaws.{length-values}
use Rattle.h5_builder_state.specs.Stamps.{OpenStamp, stamp_of}
use Rattle.h5_builder_state.specs.Summaries.{summaries, summary_of}
use Rattle.h5_builder_state.specs.View.{elements_of, kept_under, names_under, open_node, world}
use Rattle.h5_builder_state.specs.declared.open_element.OpenElement.{OpenElement}
use Rattle.h5_builder_state.proofs.AttributeLaws.{open_length}
use Rattle.h5_builder_state.proofs.StackLaws.{element_at, named}
use Rattle.h5_builder_state.proofs.RenewLaws.{kept_more, numbers_set, same_open, values_set}
use Rattle.h5_builder_state.proofs.StampLaws.{stamped_same}
use Rattle.h5_builder_state.proofs.WalkLaws.{names_count}
use Rattle.h5_builder_state.proofs.renew.renew_at.Goals as goal

pub get-former-requires : goal.get-former-requires
unfolding world
get-former-requires g c = omega (arith, c.requires.place, open_length (open_node g.S.TreeSink.node) (elements_of c.args.state.now), length-values c.args.state.now.open_elems.elements)

pub clone_handle-handle-requires : goal.clone_handle-handle-requires
unfolding world
clone_handle-handle-requires g c =
    let f = (g.S.TreeSink.sees c.args.sink.now).forest in
    element_is_node f (g.S.TreeSink.node c.get-former.result.now.handle)
    (element_at (open_node g.S.TreeSink.node) (elements_of c.args.state.now) f c.args.place c.get-former.result.now c.requires.sound.stands.elements c.requires.place c.get-former.ensures)

pub set-requires : goal.set-requires
unfolding world
set-requires g c = omega (arith, c.requires.place, open_length (open_node g.S.TreeSink.node) (elements_of c.args.state.now), length-values c.args.state.now.open_elems.elements)

pub elem_name-requires : goal.elem_name-requires
unfolding world
elem_name-requires g c =
    let f = (g.S.TreeSink.sees c.args.sink.now).forest in
    subst (IsElement f) (sym c.clone_handle-handle.ensures)
    (element_at (open_node g.S.TreeSink.node) (elements_of c.args.state.now) f c.args.place c.get-former.result.now c.requires.sound.stands.elements c.requires.place c.get-former.ensures)

pub returns-clause-world : goal.returns-clause-world
unfolding world
returns-clause-world g c =
    let node = g.S.TreeSink.node in
    let w = world g.S.TreeSink.sees node c.args.sink.now c.args.state.now in
    let items = elements_of c.args.state.now in
    let y : OpenElement _ = record { handle = c.clone_handle-handle.result; summary = c.new-summary.result; stamp = c.get-former.result.now.stamp } in
    let all = values_set c.args.state.now.open_elems.elements c.set.new.self c.args.place _ y c.set.ensures in
    ap (λ s. record w { stack = s }) (ap (λ xs. reverse (map (open_node node) xs)) all ∙ same_open node w.forest items c.args.place c.get-former.result.now y c.get-former.ensures c.clone_handle-handle.ensures)

pub returns-clause-kept : goal.returns-clause-kept
unfolding world names_under kept_under
returns-clause-kept g c =
    let node = g.S.TreeSink.node in
    let f = (g.S.TreeSink.sees c.args.sink.now).forest in
    let items = elements_of c.args.state.now in
    let y : OpenElement _ = record { handle = c.clone_handle-handle.result; summary = c.new-summary.result; stamp = c.get-former.result.now.stamp } in
    let inner : c.args.place < length items = omega (arith, c.requires.place, open_length (open_node node) items) in
    let all = values_set c.args.state.now.open_elems.elements c.set.new.self c.args.place _ y c.set.ensures in
    let name : c.elem_name.result.now ≡ name_in f (node y.handle) = sym (named f (node y.handle) c.elem_name.result.now c.elem_name.ensures) in
    let summary = c.new-summary.ensures _ c.all_under-all.ensures.known (sym (names_count g.S.TreeSink.sees node c.args.sink.now c.args.state.now c.args.place (omega (arith, c.requires.place)))) in
    subst (λ xs. reverse (map (λ element. element.summary) (take (c.args.place + 1) xs)) ≡ summaries (map (name_in f) (reverse (map (open_node node) (take (c.args.place + 1) xs))))) (sym all)
    (kept_more node f items c.args.place y inner
    (summary ∙ ap (λ n. summary_of n (names_under g.S.TreeSink.sees node c.args.sink.now c.args.state.now c.args.place)) name) c.requires.kept)

pub returns-clause-numbers : goal.returns-clause-numbers
returns-clause-numbers g c = numbers_set c.args.state.now.open_elems.elements c.set.new.self c.args.place _ c.set.ensures

pub returns-clause-newer : goal.returns-clause-newer
returns-clause-newer g c =
    let items = elements_of c.args.state.now in
    let y : OpenElement _ = record { handle = c.clone_handle-handle.result; summary = c.new-summary.result; stamp = c.get-former.result.now.stamp } in
    ap (drop (c.args.place + 1)) (values_set c.args.state.now.open_elems.elements c.set.new.self c.args.place _ y c.set.ensures) ∙ drop-set-lt (c.args.place + 1) items c.args.place y (omega arith)

pub returns-clause-stamped : goal.returns-clause-stamped
unfolding world
returns-clause-stamped g c =
    let node = g.S.TreeSink.node in
    let view = λ (o : OpenElement _). stamp_of node o in
    let items = elements_of c.args.state.now in
    let x = c.get-former.result.now in
    let y : OpenElement _ = record { handle = c.clone_handle-handle.result; summary = c.new-summary.result; stamp = x.stamp } in
    let all = values_set c.args.state.now.open_elems.elements c.set.new.self c.args.place _ y c.set.ensures in
    let one : view y ≡ view x = ap (λ (n : ℕ). (let s : OpenStamp = record { node = n; stamp = x.stamp } in s)) c.clone_handle-handle.ensures in
    stamped_same node c.args.state.now.open_elems _ c.args.state.now.active_formatting
    (ap (map view) all ∙ map-set_same view items c.args.place y x (one ∙ ap view c.get-former.ensures)) refl
