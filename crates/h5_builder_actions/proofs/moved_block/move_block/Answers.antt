use Rattle.std.proofs.Common.{ap, sym, subst, ◌∙◌, refl, arith}
use Rattle.h5_builder_spec.specs.formatting.AdoptionAgency.{KeepsKinds}
use Rattle.h5_interface.specs.Changes.{detach}
use Rattle.h5_interface.specs.Forest.{ChildNode, Forest, IsNode}
use Rattle.h5_interface.specs.Seen.{Seen, changed}
use Rattle.h5_builder_spec.specs.insertion.Place.{CanPut, appropriate_place, put}
use Rattle.h5_builder_spec.proofs.adoption.AdoptionForest.{can_detach, detached_all, detached_kinds}
use Rattle.h5_builder_spec.proofs.adoption.AdoptionPlace.{can_put_loose, put_loose_all, put_loose_kinds}
use Rattle.h5_builder_spec.specs.World.{root}
use Rattle.h5_builder_spec.specs.stack.Order.{first_or}
use Rattle.h5_builder_actions.specs.Places.{place_of}
use Rattle.h5_builder_state.specs.Steps.{world_of}
use Rattle.h5_builder_state.specs.View.{stack_under, world}
use Rattle.h5_builder_actions.proofs.MoveLaws.{next_is_first, next_is_older, next_is_open, not_lowest, place_inside}
use Rattle.h5_builder_spec.specs.Sound.{AllStand}
use Rattle.h5_builder_actions.proofs.HangLaws.{err_then, ok_then, on_either}
use Rattle.h5_builder_actions.proofs.NodeLaws.{node_kept}
use Rattle.h5_builder_actions.proofs.ViewLaws.{sound_by, sound_rehung}
use Rattle.h5_builder_actions.proofs.moved_block.move_block.Given as given
use Rattle.h5_builder_actions.proofs.moved_block.move_block.Goals as goal

-- what stands, and what old nodes are, where the block was put and where it was not
both : (g : given.Over) (c : goal.Joined-point-2 g) → (let w = world_of g.S.TreeSink c.args.sink.now c.args.state.now in let f = (g.S.TreeSink.sees c.insert_at.new.sink).forest in
    AllStand f w.stack w.formatting w.head w.form w.context × KeepsKinds (g.S.TreeSink.sees c.args.sink.now).forest f)
unfolding world
both g c =
    let may = c.requires.may in
    let node = g.S.TreeSink.node in
    let seen = g.S.TreeSink.sees c.args.sink.now in
    let w = world_of g.S.TreeSink c.args.sink.now c.args.state.now in
    let target = node c.handle_at-target.result.now in
    let last = node c.args.outermost.now in
    let behind = next_is_older g.S.TreeSink c.args.sink.now c.args.state.now c.args.place last c.requires.sound may target _ c.handle_at-target.ensures.stack in
    let put_there : Forest → Forest = λ f. put (appropriate_place w target) (ChildNode last) (detach last f) in
    on_either c.insert_at.result (λ s. AllStand s.forest w.stack w.formatting w.head w.form w.context × KeepsKinds seen.forest s.forest) _ (changed put_there seen) (changed (detach last) seen)
    (ok_then c.insert_at.result _ _ _ c.insert_at.ensures.ok
    (ap (changed (put (place_of node c.appropriate_place_for_insertion-point.result) (ChildNode (node c.clone_handle.result)))) c.in_ok-remove_from_parent.ensures.ok
    ∙ ap (λ p. changed (put p (ChildNode (node c.clone_handle.result))) (changed (detach last) seen)) c.appropriate_place_for_insertion-point.ensures
    ∙ ap (λ n. changed (put (appropriate_place w target) (ChildNode n)) (changed (detach last) seen)) c.clone_handle.ensures))
    (err_then c.insert_at.result _ _ _ c.insert_at.ensures.err c.in_ok-remove_from_parent.ensures.ok)
    (put_loose_all w may.may c.requires.sound.sound may.root target behind last may.loose, put_loose_kinds w may.may c.requires.sound.sound may.root target behind last may.loose)
    (detached_all seen.forest w.stack may.furthest.block last c.requires.sound.sound may.loose, detached_kinds seen.forest w.stack may.furthest.block last c.requires.sound.sound.stands.is_forest may.loose)

pub overflow_sub-place : goal.overflow_sub-place
overflow_sub-place g c = let some = not_lowest g.S.TreeSink c.args.sink.now c.args.state.now c.args.place _ c.requires.sound c.requires.may in omega (arith, some)

pub handle_at-target-requires : goal.handle_at-target-requires
handle_at-target-requires g c = let inside = place_inside g.S.TreeSink c.args.sink.now c.args.state.now c.args.place _ c.requires.sound c.requires.may in omega (arith, inside)

pub appropriate_place_for_insertion-point-requires-clause-open : goal.appropriate_place_for_insertion-point-requires-clause-open
appropriate_place_for_insertion-point-requires-clause-open g c =
    next_is_open g.S.TreeSink c.args.sink.now c.args.state.now c.args.place _ c.requires.sound c.requires.may (g.S.TreeSink.node c.handle_at-target.result.now) _ c.handle_at-target.ensures.stack

pub remove_from_parent-requires : goal.remove_from_parent-requires
unfolding world
remove_from_parent-requires g c =
    let may = c.requires.may in
    can_detach (g.S.TreeSink.sees c.args.sink.now).forest (world_of g.S.TreeSink c.args.sink.now c.args.state.now).stack may.furthest.block (g.S.TreeSink.node c.args.outermost.now) may.loose

pub returns-in_err-remove_from_parent-clause-sound : goal.returns-in_err-remove_from_parent-clause-sound
unfolding world
returns-in_err-remove_from_parent-clause-sound g c =
    sound_by g.S.TreeSink c.args.sink.now c.remove_from_parent.new.self c.args.state.now (λ f. f) c.in_err-remove_from_parent.ensures.err c.requires.sound c.requires.sound.sound (λ n there. refl)

pub clone_handle-requires : goal.clone_handle-requires
unfolding world
clone_handle-requires g c =
    let may = c.requires.may in
    let seen = g.S.TreeSink.sees c.args.sink.now in
    let w = world_of g.S.TreeSink c.args.sink.now c.args.state.now in
    let last = g.S.TreeSink.node c.args.outermost.now in
    subst (λ (s : Seen). IsNode s.forest last) (sym c.in_ok-remove_from_parent.ensures.ok)
    (node_kept seen.forest (detach last seen.forest) last (detached_kinds seen.forest w.stack may.furthest.block last c.requires.sound.sound.stands.is_forest may.loose) may.loose.is_node)

pub insert_at-requires : goal.insert_at-requires
unfolding world
insert_at-requires g c =
    let may = c.requires.may in
    let node = g.S.TreeSink.node in
    let seen = g.S.TreeSink.sees c.args.sink.now in
    let w = world_of g.S.TreeSink c.args.sink.now c.args.state.now in
    let target = node c.handle_at-target.result.now in
    let last = node c.args.outermost.now in
    let behind = next_is_older g.S.TreeSink c.args.sink.now c.args.state.now c.args.place last c.requires.sound may target _ c.handle_at-target.ensures.stack in
    subst (λ (s : Seen). CanPut s.forest (place_of node c.appropriate_place_for_insertion-point.result) (ChildNode (node c.clone_handle.result))) (sym c.in_ok-remove_from_parent.ensures.ok)
    (subst (λ p. CanPut (detach last seen.forest) p (ChildNode (node c.clone_handle.result))) (sym c.appropriate_place_for_insertion-point.ensures)
    (subst (λ n. CanPut (detach last seen.forest) (appropriate_place w target) (ChildNode n)) (sym c.clone_handle.ensures)
    (can_put_loose w may.may c.requires.sound.sound may.root target behind last may.loose)))

pub returns-clause-done : goal.returns-clause-done
unfolding world
returns-clause-done g c =
    let may = c.requires.may in
    let node = g.S.TreeSink.node in
    let seen = g.S.TreeSink.sees c.args.sink.now in
    let w = world_of g.S.TreeSink c.args.sink.now c.args.state.now in
    let target = node c.handle_at-target.result.now in
    let last = node c.args.outermost.now in
    let first = next_is_first g.S.TreeSink c.args.sink.now c.args.state.now c.args.place last c.requires.sound may target _ c.handle_at-target.ensures.stack in
    ok_then c.insert_at.result _ _ _ c.insert_at.ensures.ok
    (ap (changed (put (place_of node c.appropriate_place_for_insertion-point.result) (ChildNode (node c.clone_handle.result)))) c.in_ok-remove_from_parent.ensures.ok
    ∙ ap (λ p. changed (put p (ChildNode (node c.clone_handle.result))) (changed (detach last) seen)) (c.appropriate_place_for_insertion-point.ensures ∙ ap (appropriate_place w) first)
    ∙ ap (λ n. changed (put (appropriate_place w (first_or (root w) (stack_under node c.args.state.now c.args.place))) (ChildNode n)) (changed (detach last) seen)) c.clone_handle.ensures)

pub returns-clause-sound : goal.returns-clause-sound
unfolding world
returns-clause-sound g c = sound_rehung g.S.TreeSink c.args.sink.now c.insert_at.new.sink c.args.state.now c.requires.sound (both g c).0 (both g c).1

pub returns-clause-kinds : goal.returns-clause-kinds
unfolding world
returns-clause-kinds g c = (both g c).1
