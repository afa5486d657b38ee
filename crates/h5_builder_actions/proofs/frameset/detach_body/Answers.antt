use Rattle.std.proofs.Common.{◌≡◌, ℕ, Some, map, ap, sym, ◌∙◌, arith}
use Rattle.std.proofs.lemmas.List.{length-map, length-reverse}
use Rattle.h5_interface.specs.Forest.{ElementNode, Forest, FragmentNode, IsElement}
use Rattle.h5_interface.specs.Seen.{CanDetach, changed}
use Rattle.h5_interface.proofs.HangingLaws.{detach_rearranges}
use Rattle.h5_interface.specs.Changes.{detach}
use Rattle.h5_builder_spec.specs.Changes.{detach_known}
use Rattle.h5_builder_spec.proofs.changes.SoundLaws.{element_is_node, rearranged_or_not}
use Rattle.h5_builder_state.proofs.ItemLaws.{length-values}
use Rattle.h5_builder_state.specs.View.{elements_of, open_node, world}
use Rattle.h5_builder_actions.proofs.PutLaws.{onok_then}
use Rattle.h5_builder_state.proofs.StackLaws.{element_at}
use Rattle.h5_builder_state.proofs.StepLaws.{sound_rearranged}
use Rattle.h5_builder_state.proofs.AttributeLaws.{second_at, second_missing}
use Rattle.h5_builder_actions.proofs.frameset.detach_body.Goals as goal

-- an element may be detached
may_leave : (f : Forest) (n : ℕ) → IsElement f n → CanDetach f n
may_leave f n e = record { is_node = element_is_node f n e; no_fragment = λ h. let w : Some (ElementNode e.0) ≡ Some FragmentNode = sym e.1 ∙ h in cc }

pub remove_from_parent-requires : goal.remove_from_parent-requires
unfolding world
remove_from_parent-requires g c =
    let node = open_node g.S.TreeSink.node in
    let items = (elements_of c.args.state.now) in
    may_leave (g.S.TreeSink.sees c.args.sink.now).forest _
    (element_at node items (g.S.TreeSink.sees c.args.sink.now).forest 1 c.get.result.now c.requires.sound.stands.elements
    (omega (arith, length-reverse (map node items), length-map items node, c.if-len-gt1.true, c.len.ensures.count, length-values c.args.state.now.open_elems.elements)) c.get.ensures)

pub returns-then-len-gt1-clause-done : goal.returns-then-len-gt1-clause-done
unfolding world
returns-then-len-gt1-clause-done g c =
    let old = g.S.TreeSink.sees c.args.sink.now in
    let items = (elements_of c.args.state.now) in
    onok_then c.remove_from_parent.result (g.S.TreeSink.sees c.remove_from_parent.new.self) _ _ c.remove_from_parent.ensures.ok
    (ap (λ o. changed (detach_known o) old) (sym (second_at (open_node g.S.TreeSink.node) items c.get.result.now (omega (arith, c.if-len-gt1.true, c.len.ensures.count, length-values c.args.state.now.open_elems.elements)) c.get.ensures)))

pub returns-then-len-gt1-clause-sound : goal.returns-then-len-gt1-clause-sound
unfolding world
returns-then-len-gt1-clause-sound g c =
    let node = open_node g.S.TreeSink.node in
    let old = g.S.TreeSink.sees c.args.sink.now in
    let items = (elements_of c.args.state.now) in
    let call = c.remove_from_parent in
    let body = g.S.TreeSink.node c.get.result.now.handle in
    let may = may_leave old.forest body
    (element_at node items old.forest 1 c.get.result.now c.requires.sound.stands.elements
    (omega (arith, length-reverse (map node items), length-map items node, c.if-len-gt1.true, c.len.ensures.count, length-values c.args.state.now.open_elems.elements)) c.get.ensures) in
    sound_rearranged g.S.TreeSink c.args.sink.now _ c.args.state.now c.requires
    (rearranged_or_not call.result old (g.S.TreeSink.sees call.new.self) (detach body) call.ensures.ok call.ensures.err c.requires.sound.stands.is_forest
    (detach_rearranges old.forest body c.requires.sound.stands.is_forest may))

pub returns-else-len-gt1-clause-done : goal.returns-else-len-gt1-clause-done
unfolding world
returns-else-len-gt1-clause-done g c =
    let old = g.S.TreeSink.sees c.args.sink.now in
    ap (λ o. changed (detach_known o) old) (sym (second_missing (open_node g.S.TreeSink.node) (elements_of c.args.state.now) (omega (arith, c.if-len-gt1.false, c.len.ensures.count, length-values c.args.state.now.open_elems.elements))))
