use Rattle.std.proofs.Common.{◌≡◌, ◌∷◌, ◌++◌, ◌+◌, ℕ, List, drop, length, map, reverse, ap, sym, subst, ◌∙◌, refl, arith}
use Rattle.h5_token.specs.TokenText.{tag_text}
use Rattle.h5_interface.specs.Seen.{Seen}
use Rattle.h5_builder_spec.specs.formatting.Adoption.{FormattingElement, FurthestBlock, older_than, round_list}
use Rattle.h5_builder_spec.specs.stack.Order.{IsIn}
use Rattle.h5_builder_spec.specs.formatting.AdoptionAgency.{Nest, adopt}
use Rattle.h5_builder_spec.specs.Sound.{AllStand}
use Rattle.h5_builder_spec.specs.World.{World}
use Rattle.h5_builder_spec.proofs.adoption.AdoptionForest.{block_is_open}
use Rattle.h5_builder_state.specs.Numbered.{values}
use Rattle.h5_builder_state.specs.Steps.{world_of}
use Rattle.h5_builder_state.specs.View.{elements_of, open_node, stack_over, stack_under, world}
use Rattle.h5_builder_state.specs.declared.open_element.OpenElements.{OpenElements}
use Rattle.h5_builder_actions.specs.Rounds.{IsRound}
use Rattle.h5_builder_actions.proofs.AdoptLaws.{adopted_told, all_after, block_moved, clones_made, may_move, may_relist, new_stack, refilled_and_told, world_relisted, world_seen}
use Rattle.h5_builder_actions.proofs.CloneLaws.{newest_same}
use Rattle.h5_builder_actions.proofs.NodeLaws.{node_kept, nodes_kept}
use Rattle.h5_builder_actions.proofs.RoundLaws.{block_inside, from_block, from_element, own_clone, round_forest, round_nest}
use Rattle.std.specs.List.{All}
use Rattle.h5_builder_state.specs.Stamps.{MayStandBelow, stamps_of}
use Rattle.h5_builder_state.proofs.ReplacedLaws.{in_reverse}
use Rattle.h5_builder_state.proofs.StampLaws.{above_under}
use Rattle.h5_builder_actions.proofs.EntryStampLaws.{among, low_either}
use Rattle.h5_builder_actions.proofs.round.adopt.Goals as goal

pub make_clones-requires-clause-block : goal.make_clones-requires-clause-block
unfolding world
make_clones-requires-clause-block g c =
    let node = g.S.TreeSink.node in
    let choices = g.S.TreeSink.choices in
    let state = c.args.state.now in
    let w = world_of g.S.TreeSink c.args.sink.now state in
    let r = c.requires.round.round in
    block_inside node state w refl r

pub move_block-requires-clause-may : goal.move_block-requires-clause-may
unfolding world
move_block-requires-clause-may g c =
    let node = g.S.TreeSink.node in
    let choices = g.S.TreeSink.choices in
    let state = c.args.state.now in
    let w = world_of g.S.TreeSink c.args.sink.now state in
    let r = c.requires.round.round in
    let n = clones_made g.S.TreeSink c.args.sink.now state r c.make_clones.new.sink c.in_ok-clones.clones c.in_ok-clones.ensures.done in
    let forest1 : (g.S.TreeSink.sees c.make_clones.new.sink).forest ≡ (round_nest choices w r).forest = ap (λ (x : Nest). x.forest) n in
    let last : node c.in_ok-clones.clones.outermost ≡ (round_nest choices w r).outermost = ap (λ (x : Nest). x.outermost) n in
    let made : map node c.in_ok-clones.clones.made.items ≡ (round_nest choices w r).clones = ap (λ (x : Nest). x.clones) n in
    let world1 = world_seen g.S.TreeSink c.args.sink.now c.make_clones.new.sink state (round_nest choices w r).forest forest1 c.in_ok-clones.ensures.quirks in
    may_move g.S.TreeSink c.args.sink.now state r c.make_clones.new.sink (node c.in_ok-clones.clones.outermost) world1 last

pub tag_at-tag-requires : goal.tag_at-tag-requires
unfolding world
tag_at-tag-requires g c =
    let node = g.S.TreeSink.node in
    let choices = g.S.TreeSink.choices in
    let state = c.args.state.now in
    let w = world_of g.S.TreeSink c.args.sink.now state in
    let r = c.requires.round.round in
    record { node = c.requires.round.element.node; tag = c.requires.round.element.tag; newer = r.newer; older = r.older; cut = r.cut; here = r.listed_at }

pub handle_at-requires : goal.handle_at-requires
unfolding world
handle_at-requires g c =
    let node = g.S.TreeSink.node in
    let choices = g.S.TreeSink.choices in
    let state = c.args.state.now in
    let w = world_of g.S.TreeSink c.args.sink.now state in
    let r = c.requires.round.round in
    block_inside node state w refl r

pub refill-requires-clause-block : goal.refill-requires-clause-block
unfolding world
refill-requires-clause-block g c =
    let node = g.S.TreeSink.node in
    let choices = g.S.TreeSink.choices in
    let state = c.args.state.now in
    let w = world_of g.S.TreeSink c.args.sink.now state in
    let r = c.requires.round.round in
    subst (λ m. IsIn m w.stack) (sym (newest_same _ _ _ _ _ c.handle_at.ensures.stack (from_block node state w refl r))) (block_is_open w r.may)

pub tell_popped-requires-clause-place : goal.tell_popped-requires-clause-place
unfolding world
tell_popped-requires-clause-place g c =
    let node = g.S.TreeSink.node in
    let choices = g.S.TreeSink.choices in
    let state = c.args.state.now in
    let w = world_of g.S.TreeSink c.args.sink.now state in
    let r = c.requires.round.round in
    omega (arith, block_inside node state w refl r, r.block_at)

pub round_handles-requires-clause-clones : goal.round_handles-requires-clause-clones
round_handles-requires-clause-clones g c =
    let f1 = (g.S.TreeSink.sees c.make_clones.new.sink).forest in
    let f2 = (g.S.TreeSink.sees c.move_block.new.sink).forest in
    let f3 = (g.S.TreeSink.sees c.refill.new.sink).forest in
    let f4 = (g.S.TreeSink.sees c.tell_popped.new.sink).forest in
    let ns = map g.S.TreeSink.node c.in_ok-clones.clones.made.items in
    nodes_kept f3 f4 ns c.tell_popped.ensures.kinds (nodes_kept f2 f3 ns c.refill.ensures.kinds (nodes_kept f1 f2 ns c.move_block.ensures.kinds c.in_ok-clones.ensures.nodes))

pub round_handles-requires-clause-clone : goal.round_handles-requires-clause-clone
round_handles-requires-clause-clone g c =
    node_kept (g.S.TreeSink.sees c.refill.new.sink).forest (g.S.TreeSink.sees c.tell_popped.new.sink).forest (g.S.TreeSink.node c.in_ok-clone.clone) c.tell_popped.ensures.kinds c.in_ok-clone.ensures.node

pub relist-requires-clause-clones : goal.relist-requires-clause-clones
relist-requires-clause-clones g c =
    let f1 = (g.S.TreeSink.sees c.make_clones.new.sink).forest in
    let f2 = (g.S.TreeSink.sees c.move_block.new.sink).forest in
    let f3 = (g.S.TreeSink.sees c.refill.new.sink).forest in
    let f4 = (g.S.TreeSink.sees c.tell_popped.new.sink).forest in
    let ns = map g.S.TreeSink.node c.in_ok-clones.clones.made.items in
    nodes_kept f3 f4 ns c.tell_popped.ensures.kinds (nodes_kept f2 f3 ns c.refill.ensures.kinds (nodes_kept f1 f2 ns c.move_block.ensures.kinds c.in_ok-clones.ensures.nodes))

pub relist-requires-clause-clone : goal.relist-requires-clause-clone
relist-requires-clause-clone g c =
    node_kept (g.S.TreeSink.sees c.refill.new.sink).forest (g.S.TreeSink.sees c.tell_popped.new.sink).forest (g.S.TreeSink.node c.in_ok-clone.clone) c.tell_popped.ensures.kinds c.in_ok-clone.ensures.node

pub round_handles-requires-clause-block : goal.round_handles-requires-clause-block
unfolding world
round_handles-requires-clause-block g c =
    let node = g.S.TreeSink.node in
    let choices = g.S.TreeSink.choices in
    let state = c.args.state.now in
    let w = world_of g.S.TreeSink c.args.sink.now state in
    let r = c.requires.round.round in
    block_inside node state w refl r

pub relist-requires-clause-relists : goal.relist-requires-clause-relists
unfolding world
relist-requires-clause-relists g c =
    let node = g.S.TreeSink.node in
    let choices = g.S.TreeSink.choices in
    let state = c.args.state.now in
    let w = world_of g.S.TreeSink c.args.sink.now state in
    let r = c.requires.round.round in
    let n = clones_made g.S.TreeSink c.args.sink.now state r c.make_clones.new.sink c.in_ok-clones.clones c.in_ok-clones.ensures.done in
    let forest1 : (g.S.TreeSink.sees c.make_clones.new.sink).forest ≡ (round_nest choices w r).forest = ap (λ (x : Nest). x.forest) n in
    let last : node c.in_ok-clones.clones.outermost ≡ (round_nest choices w r).outermost = ap (λ (x : Nest). x.outermost) n in
    let made : map node c.in_ok-clones.clones.made.items ≡ (round_nest choices w r).clones = ap (λ (x : Nest). x.clones) n in
    let world1 = world_seen g.S.TreeSink c.args.sink.now c.make_clones.new.sink state (round_nest choices w r).forest forest1 c.in_ok-clones.ensures.quirks in
    let forest2 = block_moved g.S.TreeSink c.args.sink.now state r c.make_clones.new.sink c.move_block.new.sink (node c.in_ok-clones.clones.outermost) world1 forest1 last c.in_ok-move_block.ensures.done in
    let b : node c.handle_at.result.now ≡ _ = newest_same _ _ _ _ _ c.handle_at.ensures.stack (from_block node state w refl r) in
    let tag : tag_text c.tag_at-tag.result.now ≡ _ = c.tag_at-tag.ensures r.newer r.older _ _ r.cut r.listed_at in
    let forest4 = refilled_and_told g.S.TreeSink c.args.sink.now state r c.move_block.new.sink c.refill.new.sink c.tell_popped.new.sink (node c.handle_at.result.now) _ (tag_text c.tag_at-tag.result.now) forest2 b tag refl
    c.in_ok-clone.ensures.done (c.tell_popped.ensures.told _ _ (from_element node state w refl r)) in
    let quirks4 : (g.S.TreeSink.sees c.tell_popped.new.sink).quirks ≡ (g.S.TreeSink.sees c.args.sink.now).quirks =
    ap (λ (s : Seen). s.quirks) (c.tell_popped.ensures.told _ _ (from_element node state w refl r)) ∙ ap (λ (s : Seen). s.quirks) c.in_ok-clone.ensures.done ∙ ap (λ (s : Seen). s.quirks) c.in_ok-move_block.ensures.done ∙ c.in_ok-clones.ensures.quirks in
    let world4 = world_seen g.S.TreeSink c.args.sink.now c.tell_popped.new.sink state (round_forest choices w r) forest4 quirks4 in
    let own : node c.in_ok-clone.clone ≡ own_clone choices w r = c.in_ok-clone.ensures.handle ∙ ap choices.fresh forest2 in
    let rel = may_relist g.S.TreeSink c.args.sink.now state r c.tell_popped.new.sink (map node c.in_ok-clones.clones.made.items) (node c.in_ok-clone.clone) world4 made own in
    (c.requires.round.element, c.requires.round.furthest.between, rel)

pub restack-requires-clause-block : goal.restack-requires-clause-block
unfolding world
restack-requires-clause-block g c =
    let node = g.S.TreeSink.node in
    let state = c.args.state.now in
    let w = world_of g.S.TreeSink c.args.sink.now state in
    let same = ap (λ (open_elems : OpenElements _). length (reverse (map (open_node node) (values open_elems.elements)))) c.relist.ensures.stack in
    omega (arith, same, block_inside node state w refl c.requires.round.round)

pub restack-requires-clause-sound : goal.restack-requires-clause-sound
unfolding world
restack-requires-clause-sound g c =
    let node = g.S.TreeSink.node in
    let choices = g.S.TreeSink.choices in
    let state = c.args.state.now in
    let w = world_of g.S.TreeSink c.args.sink.now state in
    let r = c.requires.round.round in
    let n = clones_made g.S.TreeSink c.args.sink.now state r c.make_clones.new.sink c.in_ok-clones.clones c.in_ok-clones.ensures.done in
    let forest1 : (g.S.TreeSink.sees c.make_clones.new.sink).forest ≡ (round_nest choices w r).forest = ap (λ (x : Nest). x.forest) n in
    let last : node c.in_ok-clones.clones.outermost ≡ (round_nest choices w r).outermost = ap (λ (x : Nest). x.outermost) n in
    let made : map node c.in_ok-clones.clones.made.items ≡ (round_nest choices w r).clones = ap (λ (x : Nest). x.clones) n in
    let world1 = world_seen g.S.TreeSink c.args.sink.now c.make_clones.new.sink state (round_nest choices w r).forest forest1 c.in_ok-clones.ensures.quirks in
    let forest2 = block_moved g.S.TreeSink c.args.sink.now state r c.make_clones.new.sink c.move_block.new.sink (node c.in_ok-clones.clones.outermost) world1 forest1 last c.in_ok-move_block.ensures.done in
    let b : node c.handle_at.result.now ≡ _ = newest_same _ _ _ _ _ c.handle_at.ensures.stack (from_block node state w refl r) in
    let tag : tag_text c.tag_at-tag.result.now ≡ _ = c.tag_at-tag.ensures r.newer r.older _ _ r.cut r.listed_at in
    let forest4 = refilled_and_told g.S.TreeSink c.args.sink.now state r c.move_block.new.sink c.refill.new.sink c.tell_popped.new.sink (node c.handle_at.result.now) _ (tag_text c.tag_at-tag.result.now) forest2 b tag refl
    c.in_ok-clone.ensures.done (c.tell_popped.ensures.told _ _ (from_element node state w refl r)) in
    let quirks4 : (g.S.TreeSink.sees c.tell_popped.new.sink).quirks ≡ (g.S.TreeSink.sees c.args.sink.now).quirks =
    ap (λ (s : Seen). s.quirks) (c.tell_popped.ensures.told _ _ (from_element node state w refl r)) ∙ ap (λ (s : Seen). s.quirks) c.in_ok-clone.ensures.done ∙ ap (λ (s : Seen). s.quirks) c.in_ok-move_block.ensures.done ∙ c.in_ok-clones.ensures.quirks in
    let world4 = world_seen g.S.TreeSink c.args.sink.now c.tell_popped.new.sink state (round_forest choices w r) forest4 quirks4 in
    let own : node c.in_ok-clone.clone ≡ own_clone choices w r = c.in_ok-clone.ensures.handle ∙ ap choices.fresh forest2 in
    let rel = may_relist g.S.TreeSink c.args.sink.now state r c.tell_popped.new.sink (map node c.in_ok-clones.clones.made.items) (node c.in_ok-clone.clone) world4 made own in
    (c.relist.ensures.done c.requires.round.element c.requires.round.furthest.between rel).sound

pub restack-requires-clause-stands : goal.restack-requires-clause-stands
unfolding world
restack-requires-clause-stands g c =
    let node = g.S.TreeSink.node in
    let choices = g.S.TreeSink.choices in
    let state = c.args.state.now in
    let w = world_of g.S.TreeSink c.args.sink.now state in
    let r = c.requires.round.round in
    let n = clones_made g.S.TreeSink c.args.sink.now state r c.make_clones.new.sink c.in_ok-clones.clones c.in_ok-clones.ensures.done in
    let forest1 : (g.S.TreeSink.sees c.make_clones.new.sink).forest ≡ (round_nest choices w r).forest = ap (λ (x : Nest). x.forest) n in
    let last : node c.in_ok-clones.clones.outermost ≡ (round_nest choices w r).outermost = ap (λ (x : Nest). x.outermost) n in
    let made : map node c.in_ok-clones.clones.made.items ≡ (round_nest choices w r).clones = ap (λ (x : Nest). x.clones) n in
    let world1 = world_seen g.S.TreeSink c.args.sink.now c.make_clones.new.sink state (round_nest choices w r).forest forest1 c.in_ok-clones.ensures.quirks in
    let forest2 = block_moved g.S.TreeSink c.args.sink.now state r c.make_clones.new.sink c.move_block.new.sink (node c.in_ok-clones.clones.outermost) world1 forest1 last c.in_ok-move_block.ensures.done in
    let b : node c.handle_at.result.now ≡ _ = newest_same _ _ _ _ _ c.handle_at.ensures.stack (from_block node state w refl r) in
    let tag : tag_text c.tag_at-tag.result.now ≡ _ = c.tag_at-tag.ensures r.newer r.older _ _ r.cut r.listed_at in
    let forest4 = refilled_and_told g.S.TreeSink c.args.sink.now state r c.move_block.new.sink c.refill.new.sink c.tell_popped.new.sink (node c.handle_at.result.now) _ (tag_text c.tag_at-tag.result.now) forest2 b tag refl
    c.in_ok-clone.ensures.done (c.tell_popped.ensures.told _ _ (from_element node state w refl r)) in
    let quirks4 : (g.S.TreeSink.sees c.tell_popped.new.sink).quirks ≡ (g.S.TreeSink.sees c.args.sink.now).quirks =
    ap (λ (s : Seen). s.quirks) (c.tell_popped.ensures.told _ _ (from_element node state w refl r)) ∙ ap (λ (s : Seen). s.quirks) c.in_ok-clone.ensures.done ∙ ap (λ (s : Seen). s.quirks) c.in_ok-move_block.ensures.done ∙ c.in_ok-clones.ensures.quirks in
    let world4 = world_seen g.S.TreeSink c.args.sink.now c.tell_popped.new.sink state (round_forest choices w r) forest4 quirks4 in
    let own : node c.in_ok-clone.clone ≡ own_clone choices w r = c.in_ok-clone.ensures.handle ∙ ap choices.fresh forest2 in
    let rel = may_relist g.S.TreeSink c.args.sink.now state r c.tell_popped.new.sink (map node c.in_ok-clones.clones.made.items) (node c.in_ok-clone.clone) world4 made own in
    let f = c.requires.round.element in
    let k = c.requires.round.furthest in
    let mid = world_of g.S.TreeSink c.tell_popped.new.sink state in
    let after = world_relisted g.S.TreeSink c.args.sink.now state r mid (world_of g.S.TreeSink c.tell_popped.new.sink c.relist.new.state) (map node c.in_ok-clones.clones.made.items) (node c.in_ok-clone.clone) world4 made own
    (c.relist.ensures.done f k.between rel).world in
    let handles : reverse (map node c.in_ok-handles.handles.items) ≡ node c.in_ok-clone.clone ∷ k.block ∷ map node c.in_ok-clones.clones.made.items =
    c.in_ok-handles.ensures k.block (k.between ++ f.node ∷ older_than f.node w.stack) (from_block node state w refl r) in
    let stack = new_stack g.S.TreeSink c.args.sink.now state r c.relist.new.state (reverse (map node c.in_ok-handles.handles.items)) (map node c.in_ok-clones.clones.made.items) (node c.in_ok-clone.clone) (ap (λ (v : World). v.stack) after) made own handles in
    subst (λ (v : World). AllStand v.forest ((stack_over node c.relist.new.state (c.args.block + 1) ++ reverse (map node c.in_ok-handles.handles.items)) ++ stack_under node c.relist.new.state c.args.place) v.formatting v.head v.form v.context) (sym after)
    (subst (λ s. AllStand (round_forest choices w r) s (round_list f.node f.tag k.between (round_nest choices w r).clones (own_clone choices w r) w.formatting) w.head w.form w.context) (sym stack)
    (all_after g.S.TreeSink c.args.sink.now state r))

pub returns-clause-done : goal.returns-clause-done
unfolding world
returns-clause-done g c =
    let choices = g.S.TreeSink.choices in
    let state = c.args.state.now in
    let w = world_of g.S.TreeSink c.args.sink.now state in
    let w5 = world_of g.S.TreeSink c.tell_popped.new.sink c.relist.new.state in
    let new_handles = (stack_over g.S.TreeSink.node c.relist.new.state (c.args.block + 1) ++ reverse (map g.S.TreeSink.node c.in_ok-handles.handles.items)) ++ stack_under g.S.TreeSink.node c.relist.new.state c.args.place in
    let all : (name : List ℕ) (f : FormattingElement) (k : FurthestBlock) → IsRound name f k c.args.place c.args.at c.args.block w → (record w5 { stack = new_handles }) ≡ adopt choices f k w = λ name f k r.
    let node = g.S.TreeSink.node in
    let choices = g.S.TreeSink.choices in
    let state = c.args.state.now in
    let w = world_of g.S.TreeSink c.args.sink.now state in
    let n = clones_made g.S.TreeSink c.args.sink.now state r c.make_clones.new.sink c.in_ok-clones.clones c.in_ok-clones.ensures.done in
    let forest1 : (g.S.TreeSink.sees c.make_clones.new.sink).forest ≡ (round_nest choices w r).forest = ap (λ (x : Nest). x.forest) n in
    let last : node c.in_ok-clones.clones.outermost ≡ (round_nest choices w r).outermost = ap (λ (x : Nest). x.outermost) n in
    let made : map node c.in_ok-clones.clones.made.items ≡ (round_nest choices w r).clones = ap (λ (x : Nest). x.clones) n in
    let world1 = world_seen g.S.TreeSink c.args.sink.now c.make_clones.new.sink state (round_nest choices w r).forest forest1 c.in_ok-clones.ensures.quirks in
    let forest2 = block_moved g.S.TreeSink c.args.sink.now state r c.make_clones.new.sink c.move_block.new.sink (node c.in_ok-clones.clones.outermost) world1 forest1 last c.in_ok-move_block.ensures.done in
    let b : node c.handle_at.result.now ≡ _ = newest_same _ _ _ _ _ c.handle_at.ensures.stack (from_block node state w refl r) in
    let tag : tag_text c.tag_at-tag.result.now ≡ _ = c.tag_at-tag.ensures r.newer r.older _ _ r.cut r.listed_at in
    let forest4 = refilled_and_told g.S.TreeSink c.args.sink.now state r c.move_block.new.sink c.refill.new.sink c.tell_popped.new.sink (node c.handle_at.result.now) _ (tag_text c.tag_at-tag.result.now) forest2 b tag refl
    c.in_ok-clone.ensures.done (c.tell_popped.ensures.told _ _ (from_element node state w refl r)) in
    let quirks4 : (g.S.TreeSink.sees c.tell_popped.new.sink).quirks ≡ (g.S.TreeSink.sees c.args.sink.now).quirks =
    ap (λ (s : Seen). s.quirks) (c.tell_popped.ensures.told _ _ (from_element node state w refl r)) ∙ ap (λ (s : Seen). s.quirks) c.in_ok-clone.ensures.done ∙ ap (λ (s : Seen). s.quirks) c.in_ok-move_block.ensures.done ∙ c.in_ok-clones.ensures.quirks in
    let world4 = world_seen g.S.TreeSink c.args.sink.now c.tell_popped.new.sink state (round_forest choices w r) forest4 quirks4 in
    let own : node c.in_ok-clone.clone ≡ own_clone choices w r = c.in_ok-clone.ensures.handle ∙ ap choices.fresh forest2 in
    let rel = may_relist g.S.TreeSink c.args.sink.now state r c.tell_popped.new.sink (map node c.in_ok-clones.clones.made.items) (node c.in_ok-clone.clone) world4 made own in
    let mid = world_of g.S.TreeSink c.tell_popped.new.sink state in
    let after = world_relisted g.S.TreeSink c.args.sink.now state r mid (world_of g.S.TreeSink c.tell_popped.new.sink c.relist.new.state) (map node c.in_ok-clones.clones.made.items) (node c.in_ok-clone.clone) world4 made own
    (c.relist.ensures.done f k.between rel).world in
    let handles : reverse (map node c.in_ok-handles.handles.items) ≡ node c.in_ok-clone.clone ∷ k.block ∷ map node c.in_ok-clones.clones.made.items =
    c.in_ok-handles.ensures k.block (k.between ++ f.node ∷ older_than f.node w.stack) (from_block node state w refl r) in
    let stack = new_stack g.S.TreeSink c.args.sink.now state r c.relist.new.state (reverse (map node c.in_ok-handles.handles.items)) (map node c.in_ok-clones.clones.made.items) (node c.in_ok-clone.clone) (ap (λ (v : World). v.stack) after) made own handles in
    ap (λ (v : World). record v { stack = new_handles }) after
    ∙ ap (λ s. record w { forest = round_forest choices w r; stack = s; formatting = round_list f.node f.tag k.between (round_nest choices w r).clones (own_clone choices w r) w.formatting }) stack in
    adopted_told c.restack.result choices c.args.place c.args.at c.args.block w _ (record w5 { stack = new_handles }) c.restack.ensures.world all

pub restack-requires-clause-below : goal.restack-requires-clause-below
unfolding world stack_under
restack-requires-clause-below g c =
    let node = g.S.TreeSink.node in
    let state = c.args.state.now in
    let w = world_of g.S.TreeSink c.args.sink.now state in
    let block = c.args.block in
    let open_elems = state.open_elems in
    let k = c.requires.round.furthest in
    let r = c.requires.round.round in
    let list = c.relist.new.state.active_formatting in
    let ns = node c.in_ok-clone.clone ∷ map node c.in_ok-clones.clones.made.items in
    let may = c.relist.ensures.restack in
    let below = from_block node state w refl r in
    let handles = c.in_ok-handles.ensures k.block _ below in
    let all = low_either node open_elems block ns k.block list may.stamped (λ stamp a. above_under node (elements_of state) k.block stamp block block _ below (omega arith) a) (map node c.in_ok-handles.handles.items)
    (λ m i. among m (node c.in_ok-clone.clone) k.block (map node c.in_ok-clones.clones.made.items) (subst (IsIn m) handles (in_reverse m (map node c.in_ok-handles.handles.items) i))) may.below in
    subst (λ o. All (MayStandBelow node (drop block (stamps_of node o)) (map node c.in_ok-handles.handles.items)) list) (sym c.relist.ensures.stack) all
