use Rattle.std.proofs.Common.{[], ap, arith, map, refl, reverse, subst, sym, ◌++◌, ◌∙◌, ◌∷◌, ◌≡◌}
use Rattle.std.proofs.lemmas.List.{nil_from_length}
use Rattle.std.proofs.lemmas.Result.{err_from_is_err_and}
use Rattle.std.specs.Vec.Iter.{into_iter_items}
use Rattle.h5_builder_spec.specs.Sound.{AllStand}
use Rattle.h5_builder_spec.specs.World.{World}
use Rattle.h5_builder_state.specs.Steps.{world_of}
use Rattle.h5_builder_state.specs.View.{stack_under, with_stack}
use Rattle.h5_builder_spec.proofs.changes.RemovalLaws.{all_older}
use Rattle.h5_builder_actions.proofs.StackPushLaws.{moved_over, same_but_stack}
use Rattle.h5_builder_actions.proofs.stack.reopen.Goals as goal

pub push_open-requires-clause-stands : goal.push_open-requires-clause-stands
push_open-requires-clause-stands g c =
    let node = g.S.TreeSink.node in
    let w = world_of g.S.TreeSink c.args.sink.now c.args.state.now in
    let v = world_of g.S.TreeSink c.args.sink.now c.loop-handle.state in
    let s = node c.in-Some.handle ∷ v.stack in
    let left = into_iter_items c.loop-handle.handle-iterator in
    let rest = into_iter_items c.next.new.self in
    let whole = moved_over node left rest c.in-Some.handle v.stack c.in-Some.ensures.steps.0 ∙ c.loop-handle.invariant.left in
    subst (λ (u : World). AllStand u.forest s u.formatting u.head u.form u.context) (sym c.loop-handle.invariant.world)
    (all_older w.forest (reverse (map node rest)) s (subst (λ z. AllStand w.forest z w.formatting w.head w.form w.context) (sym whole) c.requires.stands))

pub loop-handle-init : goal.loop-handle-init
loop-handle-init g c =
    let node = g.S.TreeSink.node in
    let w = world_of g.S.TreeSink c.args.sink.now c.args.state.now in
    let v = world_of g.S.TreeSink c.args.sink.now c.keep_oldest.new.state in
    let low = stack_under node c.args.state.now c.args.place in
    record {
      sound = c.keep_oldest.ensures.sound;
      world = same_but_stack v w low c.keep_oldest.ensures.world;
      left = ap (λ xs. reverse (map node xs) ++ v.stack) c.into_iter-handle-iterator.ensures.into_iter_gives.0
          ∙ ap (λ (u : World). reverse (map node c.args.handles.items) ++ u.stack) c.keep_oldest.ensures.world;
    }

pub loop-handle-preserved : goal.loop-handle-preserved
loop-handle-preserved g c =
    let node = g.S.TreeSink.node in
    let w = world_of g.S.TreeSink c.args.sink.now c.args.state.now in
    let v = world_of g.S.TreeSink c.args.sink.now c.loop-handle.state in
    let s = node c.in-Some.handle ∷ v.stack in
    let left = into_iter_items c.loop-handle.handle-iterator in
    let rest = into_iter_items c.next.new.self in
    let step = c.in_ok-push_open.ensures.world in
    record {
      sound = c.push_open.ensures.sound;
      world = same_but_stack (world_of g.S.TreeSink c.args.sink.now c.push_open.new.state) w s (step ∙ ap (with_stack s) c.loop-handle.invariant.world);
      left = ap (λ (u : World). reverse (map node rest) ++ u.stack) step ∙ moved_over node left rest c.in-Some.handle v.stack c.in-Some.ensures.steps.0 ∙ c.loop-handle.invariant.left;
    }

pub returns-in_err-push_open : goal.returns-in_err-push_open
returns-in_err-push_open g c =
    let refused = err_from_is_err_and c.from_residual.result c.from_residual.ensures.1 in
    record { world = rw (refused.1) tt; quiet = refl; sound = c.push_open.ensures.sound }

pub returns : goal.returns
returns g c =
    let node = g.S.TreeSink.node in
    let w = world_of g.S.TreeSink c.args.sink.now c.args.state.now in
    let v = world_of g.S.TreeSink c.args.sink.now c.loop-handle.state in
    let rest = c.loop-handle.handle-iterator.rest in
    let none : rest.items ≡ [] = nil_from_length rest.items (omega (arith, rest.ok.0, c.in-None.ensures.steps.0)) in
    let all : v.stack ≡ reverse (map node c.args.handles.items) ++ stack_under node c.args.state.now c.args.place =
    sym (ap (λ xs. reverse (map node xs) ++ v.stack) none) ∙ c.loop-handle.invariant.left in
    record {
      world = c.loop-handle.invariant.world ∙ ap (λ s. with_stack s w) all;
      quiet = refl;
      sound = c.loop-handle.invariant.sound;
    }
