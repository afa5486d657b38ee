use Rattle.std.proofs.Common.{[], ap, append_assoc, arith, drop, inl, inr, length, map, refl, subst, sym, take, ◌++◌, ◌+◌, ◌-◌, ◌<◌, ◌∙◌, ◌∷◌, ◌≡◌}
use Rattle.std.proofs.lemmas.Bool.{eqb-false, eqb-true}
use Rattle.std.proofs.lemmas.List.{nil_from_length}
use Rattle.std.specs.Prelude.{vec_len}
use Rattle.h5_builder_spec.specs.World.{World}
use Rattle.h5_builder_spec.specs.formatting.Adoption.{round_list}
use Rattle.h5_builder_spec.specs.formatting.FormattingList.{ElementEntry, nodes_of}
use Rattle.h5_builder_state.specs.Steps.{world_of}
use Rattle.h5_builder_state.specs.View.{stack_under, world}
use Rattle.h5_builder_actions.specs.FormattingPlaces.{AreNodes}
use Rattle.h5_builder_actions.proofs.NodeLaws.{handle_in, listed_nodes, nodes_swapped, open_nodes}
use Rattle.h5_builder_actions.proofs.RelistsLaws as laws
use Rattle.h5_builder_state.proofs.SeenLaws.{drop_more}
use Rattle.h5_builder_spec.specs.stack.Order.{IsIn}
use Rattle.h5_builder_actions.specs.Restacks.{MayRestack}
use Rattle.h5_builder_actions.proofs.EntryStampLaws.{low_unlisted, restack_by}
use Rattle.h5_builder_actions.proofs.OpenLaws.{same_under}
use Rattle.h5_builder_actions.proofs.relisting.relist.Goals as goal

pub relist_between-requires-clause-open : goal.relist_between-requires-clause-open
unfolding world
relist_between-requires-clause-open g c = open_nodes (world_of g.S.TreeSink c.args.sink.now c.args.state.now) c.requires.sound.sound

pub relist_between-requires-clause-listed : goal.relist_between-requires-clause-listed
unfolding world
relist_between-requires-clause-listed g c = listed_nodes (world_of g.S.TreeSink c.args.sink.now c.args.state.now) c.requires.sound.sound

pub relist_between-requires-clause-block : goal.relist_between-requires-clause-block
relist_between-requires-clause-block g c =
    let r = c.requires.relists in
    laws.block_inside r.0 r.1 _ _ _ _ _ _ r.2

pub swap_entry-requires : goal.swap_entry-requires
unfolding world
swap_entry-requires g c =
    let node = g.S.TreeSink.node in
    let state = c.args.state.now in
    let w = world_of g.S.TreeSink c.args.sink.now state in
    let clones = map node c.args.clones.now.items in
    let n = node c.args.clone in
    let p = c.requires.relists in
    let walked = laws.walked_world p.0 p.1 clones n c.args.at c.args.first c.args.block w p.2 (take (c.args.block - c.args.first) (stack_under node state c.args.block)) (world_of g.S.TreeSink c.args.sink.now c.relist_between.new.state)
    (laws.between_taken p.0 p.1 clones n c.args.at c.args.first c.args.block w p.2 node state refl) c.relist_between.ensures.world in
    record { node = p.0.node; tag = p.0.tag; newer = laws.walk p.0 p.1 clones n c.args.at c.args.first c.args.block w p.2; older = p.2.older; cut = ap (λ (z : World). z.formatting) walked; here = p.2.here }

pub move_above-requires-clause-from : goal.move_above-requires-clause-from
unfolding world
move_above-requires-clause-from g c =
    let node = g.S.TreeSink.node in
    let state = c.args.state.now in
    let w = world_of g.S.TreeSink c.args.sink.now state in
    let v = world_of g.S.TreeSink c.args.sink.now c.relist_between.new.state in
    let u = world_of g.S.TreeSink c.args.sink.now c.swap_entry.new.state in
    let clones = map node c.args.clones.now.items in
    let n = node c.args.clone in
    let p = c.requires.relists in
    let walked = laws.walked_world p.0 p.1 clones n c.args.at c.args.first c.args.block w p.2 (take (c.args.block - c.args.first) (stack_under node state c.args.block)) v
    (laws.between_taken p.0 p.1 clones n c.args.at c.args.first c.args.block w p.2 node state refl) c.relist_between.ensures.world in
    let swapped = laws.swapped_world p.0 p.1 clones n c.args.at c.args.first c.args.block w p.2 v u walked c.swap_entry.ensures.done in
    laws.place_inside p.0 p.1 clones n c.args.at c.args.first c.args.block w p.2 (ElementEntry n p.0.tag) u swapped

pub move_above-requires-clause-listed : goal.move_above-requires-clause-listed
unfolding world
move_above-requires-clause-listed g c =
    let node = g.S.TreeSink.node in
    let state = c.args.state.now in
    let w = world_of g.S.TreeSink c.args.sink.now state in
    let v = world_of g.S.TreeSink c.args.sink.now c.relist_between.new.state in
    let u = world_of g.S.TreeSink c.args.sink.now c.swap_entry.new.state in
    let clones = map node c.args.clones.now.items in
    let n = node c.args.clone in
    let p = c.requires.relists in
    let walked = laws.walked_world p.0 p.1 clones n c.args.at c.args.first c.args.block w p.2 (take (c.args.block - c.args.first) (stack_under node state c.args.block)) v
    (laws.between_taken p.0 p.1 clones n c.args.at c.args.first c.args.block w p.2 node state refl) c.relist_between.ensures.world in
    let swapped = laws.swapped_world p.0 p.1 clones n c.args.at c.args.first c.args.block w p.2 v u walked c.swap_entry.ensures.done in
    let f = (g.S.TreeSink.sees c.args.sink.now).forest in
    let r = p.2 in
    subst (λ (z : World). AreNodes f (nodes_of z.formatting)) (sym swapped)
    (nodes_swapped f (laws.walk p.0 p.1 clones n c.args.at c.args.first c.args.block w r) r.older p.0.node n p.0.tag (subst (λ (z : World). AreNodes f (nodes_of z.formatting)) walked c.relist_between.ensures.listed) c.requires.clone)

pub move_above-requires-clause-handle : goal.move_above-requires-clause-handle
move_above-requires-clause-handle g c =
    let node = g.S.TreeSink.node in
    let items = c.args.clones.now.items in
    let x = c.index.result.now in
    let nonempty = eqb-false (vec_len c.args.clones.now) 0 (sym c.is_empty.ensures ∙ c.if-not-is_empty.true) in
    let inside : 0 < length items = omega (arith, nonempty, c.args.clones.now.ok.0) in
    c.requires.clones (node x) (handle_in node items 0 x inside c.index.ensures)

pub returns-else-not-is_empty-clause-restack : goal.returns-else-not-is_empty-clause-restack
unfolding world
returns-else-not-is_empty-clause-restack g c =
    let node = g.S.TreeSink.node in
    let state = c.args.state.now in
    let open_elems = state.open_elems in
    let block = c.args.block in
    let w = world_of g.S.TreeSink c.args.sink.now state in
    let v = world_of g.S.TreeSink c.args.sink.now c.relist_between.new.state in
    let clones = map node c.args.clones.now.items in
    let n = node c.args.clone in
    let ns = n ∷ clones in
    let p = c.requires.relists in
    let f = p.0 in
    let r = p.2 in
    let walked = laws.walked_world f p.1 clones n c.args.at c.args.first block w r (take (block - c.args.first) (stack_under node state block)) v
    (laws.between_taken f p.1 clones n c.args.at c.args.first block w r node state refl) c.relist_between.ensures.world in
    let under = same_under node c.relist_between.new.state state (c.args.first - 1 + 1) c.relist_between.ensures.stack ∙ laws.element_under f p.1 clones n c.args.at c.args.first block w r node state refl in
    let out = subst (λ (z : World). ¬ (IsIn n z.stack)) (sym c.relist_between.ensures.world) (r.unopened n (inl refl)) in
    let first : MayRestack node open_elems block ns state.active_formatting = record {
      stamped = c.requires.sound.stamped;
      below = low_unlisted node open_elems block ns state.active_formatting (laws.none_listed f p.1 clones n c.args.at c.args.first block w r);
    } in
    let next = restack_by node open_elems c.relist_between.new.state.open_elems block ns c.relist_between.new.state.active_formatting c.swap_entry.new.state.active_formatting c.relist_between.ensures.stack
    (c.swap_entry.ensures.restack block (c.args.first - 1) ns r.below (laws.walk f p.1 clones n c.args.at c.args.first block w r) r.older f.node f.tag (ap (λ (z : World). z.formatting) walked) r.here under (omega (arith, r.highest)) out)
    (c.relist_between.ensures.restack ns first) in
    next

pub returns-then-not-is_empty-clause-restack : goal.returns-then-not-is_empty-clause-restack
unfolding world
returns-then-not-is_empty-clause-restack g c =
    let node = g.S.TreeSink.node in
    let state = c.args.state.now in
    let open_elems = state.open_elems in
    let block = c.args.block in
    let w = world_of g.S.TreeSink c.args.sink.now state in
    let v = world_of g.S.TreeSink c.args.sink.now c.relist_between.new.state in
    let clones = map node c.args.clones.now.items in
    let n = node c.args.clone in
    let ns = n ∷ clones in
    let p = c.requires.relists in
    let f = p.0 in
    let r = p.2 in
    let walked = laws.walked_world f p.1 clones n c.args.at c.args.first block w r (take (block - c.args.first) (stack_under node state block)) v
    (laws.between_taken f p.1 clones n c.args.at c.args.first block w r node state refl) c.relist_between.ensures.world in
    let under = same_under node c.relist_between.new.state state (c.args.first - 1 + 1) c.relist_between.ensures.stack ∙ laws.element_under f p.1 clones n c.args.at c.args.first block w r node state refl in
    let out = subst (λ (z : World). ¬ (IsIn n z.stack)) (sym c.relist_between.ensures.world) (r.unopened n (inl refl)) in
    let first : MayRestack node open_elems block ns state.active_formatting = record {
      stamped = c.requires.sound.stamped;
      below = low_unlisted node open_elems block ns state.active_formatting (laws.none_listed f p.1 clones n c.args.at c.args.first block w r);
    } in
    let next = restack_by node open_elems c.relist_between.new.state.open_elems block ns c.relist_between.new.state.active_formatting c.swap_entry.new.state.active_formatting c.relist_between.ensures.stack
    (c.swap_entry.ensures.restack block (c.args.first - 1) ns r.below (laws.walk f p.1 clones n c.args.at c.args.first block w r) r.older f.node f.tag (ap (λ (z : World). z.formatting) walked) r.here under (omega (arith, r.highest)) out)
    (c.relist_between.ensures.restack ns first) in
    restack_by node open_elems c.swap_entry.new.state.open_elems block ns c.swap_entry.new.state.active_formatting c.move_above.new.state.active_formatting (c.swap_entry.ensures.stack ∙ c.relist_between.ensures.stack)
    (c.move_above.ensures.restack block ns) next

pub relist_between-requires-clause-unopened : goal.relist_between-requires-clause-unopened
relist_between-requires-clause-unopened g c = λ n i. c.requires.relists.2.unopened n (inr i)

pub returns-else-not-is_empty-clause-done : goal.returns-else-not-is_empty-clause-done
unfolding world
returns-else-not-is_empty-clause-done g c = λ f between r.
    let node = g.S.TreeSink.node in
    let state = c.args.state.now in
    let w = world_of g.S.TreeSink c.args.sink.now state in
    let v = world_of g.S.TreeSink c.args.sink.now c.relist_between.new.state in
    let u = world_of g.S.TreeSink c.args.sink.now c.swap_entry.new.state in
    let items = c.args.clones.now.items in
    let clones = map node items in
    let n = node c.args.clone in
    let walked = laws.walked_world f between clones n c.args.at c.args.first c.args.block w r (take (c.args.block - c.args.first) (stack_under node state c.args.block)) v
    (laws.between_taken f between clones n c.args.at c.args.first c.args.block w r node state refl) c.relist_between.ensures.world in
    let swapped = laws.swapped_world f between clones n c.args.at c.args.first c.args.block w r v u walked c.swap_entry.ensures.done in
    let empty : vec_len c.args.clones.now ≡ 0 = eqb-true (vec_len c.args.clones.now) 0 (sym c.is_empty.ensures ∙ c.if-not-is_empty.false) in
    let none : items ≡ [] = nil_from_length items (omega (arith, empty, c.args.clones.now.ok.0)) in
    let after = round_list f.node f.tag between clones n w.formatting in
    let done = swapped ∙ ap (λ l. record w { formatting = l }) (sym (laws.relist_alone f between clones n c.args.at c.args.first c.args.block w r (ap (map node) none))) in
    record {
      world = done;
      quiet = refl;
      sound = laws.sound_relisted g.S.TreeSink c.args.sink.now state c.swap_entry.new.state after (c.swap_entry.ensures.stack ∙ c.relist_between.ensures.stack) done c.requires.sound
          (laws.sound_round f between clones n c.args.at c.args.first c.args.block w r c.requires.sound.sound)
          (returns-else-not-is_empty-clause-restack g c).stamped;
    }

pub returns-then-not-is_empty-clause-done : goal.returns-then-not-is_empty-clause-done
unfolding world
returns-then-not-is_empty-clause-done g c = λ f between r.
    let node = g.S.TreeSink.node in
    let state = c.args.state.now in
    let w = world_of g.S.TreeSink c.args.sink.now state in
    let v = world_of g.S.TreeSink c.args.sink.now c.relist_between.new.state in
    let u = world_of g.S.TreeSink c.args.sink.now c.swap_entry.new.state in
    let items = c.args.clones.now.items in
    let clones = map node items in
    let n = node c.args.clone in
    let x = c.index.result.now in
    let y = node x in
    let walked = laws.walked_world f between clones n c.args.at c.args.first c.args.block w r (take (c.args.block - c.args.first) (stack_under node state c.args.block)) v
    (laws.between_taken f between clones n c.args.at c.args.first c.args.block w r node state refl) c.relist_between.ensures.world in
    let swapped = laws.swapped_world f between clones n c.args.at c.args.first c.args.block w r v u walked c.swap_entry.ensures.done in
    let nonempty = eqb-false (vec_len c.args.clones.now) 0 (sym c.is_empty.ensures ∙ c.if-not-is_empty.true) in
    let inside : 0 < length items = omega (arith, nonempty, c.args.clones.now.ok.0) in
    let some : clones ≡ y ∷ drop 1 clones = drop_more node items 0 x inside c.index.ensures in
    let k = laws.first_cut f between clones n c.args.at c.args.first c.args.block w r y (drop 1 clones) some in
    let own = ElementEntry n f.tag in
    let list = ap (λ (z : World). z.formatting) swapped ∙ ap (λ z. z ++ own ∷ r.older) k.cut ∙ append_assoc k.front (ElementEntry y k.tag ∷ k.rest) (own ∷ r.older) in
    let moved = c.move_above.ensures.done k.front k.rest r.older k.tag own list k.first r.here in
    let after = round_list f.node f.tag between clones n w.formatting in
    let done = moved ∙ ap (λ (z : World). record z { formatting = k.front ++ own ∷ ElementEntry y k.tag ∷ (k.rest ++ r.older) }) swapped
    ∙ ap (λ l. record w { formatting = l }) (sym (laws.relist_above f between clones n c.args.at c.args.first c.args.block w r y (drop 1 clones) k some)) in
    record {
      world = done;
      quiet = refl;
      sound = laws.sound_relisted g.S.TreeSink c.args.sink.now state c.move_above.new.state after (c.move_above.ensures.stack ∙ c.swap_entry.ensures.stack ∙ c.relist_between.ensures.stack) done c.requires.sound
          (laws.sound_round f between clones n c.args.at c.args.first c.args.block w r c.requires.sound.sound)
          (returns-then-not-is_empty-clause-restack g c).stamped;
    }
