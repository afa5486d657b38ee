-- What sink and state mean in a round of the adoption agency, stage by stage.
use Rattle.std.proofs.Common.{◌≡◌, ◌≢◌, ◌+◌, ℕ, List, [], ◌∷◌, ◌++◌, append_assoc, map, reverse, Result, Ok, Err, OnOk, refl, ap, sym, subst, ◌∙◌, arith}
use Rattle.h5_interface.specs.Changes.{detach, reparent}
use Rattle.h5_interface.specs.Forest.{ChildNode, Forest}
use Rattle.h5_interface.specs.Seen.{Seen, after_pop, changed, with_last_child}
use Rattle.h5_interface.specs.SinkChoices.{SinkChoices}
use Rattle.h5_interface.specs.declared.sink.TreeSink.{Ghosts}
use Rattle.h5_token.specs.TokenText.{TagText}
use Rattle.h5_builder_spec.specs.formatting.Adoption.{FormattingElement, FurthestBlock, older_than, round_list, round_stack, to_clone}
use Rattle.h5_builder_spec.specs.stack.Order.{first_or}
use Rattle.h5_builder_spec.specs.formatting.AdoptionAgency.{adopt, common_ancestor, make_for, nest, placed, refilled}
use Rattle.h5_builder_spec.specs.Changes.{with_forest}
use Rattle.h5_builder_spec.specs.insertion.Place.{appropriate_place, put}
use Rattle.h5_builder_spec.specs.Sound.{AllStand}
use Rattle.h5_builder_spec.specs.World.{World, root}
use Rattle.h5_builder_spec.proofs.adoption.AdoptionPlace.{may_adopt_kept, older_some}
use Rattle.h5_builder_spec.proofs.adoption.AdoptionRound.{adopt_ready, nest_all, root_kept}
use Rattle.h5_builder_state.specs.Steps.{world_of}
use Rattle.h5_builder_state.specs.View.{elements_of, open_node, stack_over, stack_under, world}
use Rattle.h5_builder_state.specs.declared.state.State.{State}
use Rattle.h5_builder_state.proofs.SeenLaws.{seen_at}
use Rattle.h5_builder_actions.specs.Hanging.{MayMove, nest_of, open_between}
use Rattle.h5_builder_actions.specs.Relists.{Relists}
use Rattle.h5_builder_actions.specs.Rounds.{IsRound}
use Rattle.h5_builder_actions.specs.declared.clones.Clones.{Clones}
use Rattle.h5_builder_actions.proofs.MoveLaws.{older_under}
use Rattle.h5_builder_actions.proofs.RoundLaws.{between_is, from_block, own_clone, relists, round_forest, round_nest, round_split, under_element, under_length}

-- the sink alone changed
pub world_seen : {S H O : Type 0} (law : Ghosts S H O) (old new : S) (state : State H) (f : Forest) → (law.sees new).forest ≡ f → (law.sees new).quirks ≡ (law.sees old).quirks → world_of law new state ≡ with_forest f (world_of law old state)
unfolding world
world_seen law old new state f e q =
    let w = world_of law old state in
    ap (λ g. record w { forest = g; seen_quirks = (law.sees new).quirks }) e ∙ ap (λ x. record w { forest = f; seen_quirks = x }) q

some_first : (d e : ℕ) (s : List ℕ) → s ≢ [] → first_or d s ≡ first_or e s
some_first d e [] h = absurd (h refl)
some_first d e (n ∷ s) h = refl

module _ {S H O : Type 0} (law : Ghosts S H O) (old : S) (state : State H) {name : List ℕ} {f : FormattingElement} {k : FurthestBlock} {place at block : ℕ} (r : IsRound name f k place at block (world_of law old state)) where
  abbrev start : World
  start = world_of law old state

  abbrev same_stack : start.stack ≡ reverse (map (open_node law.node) (elements_of state))
  unfolding world
  same_stack = refl

  -- the clones are made
  pub clones_made : (new : S) (clones : Clones H)
      → ((n : ℕ) (older : List ℕ) → stack_under law.node state (block + 1) ≡ n ∷ older → nest_of law.node (law.sees new).forest clones
      ≡ nest law.choices start.formatting (to_clone start.formatting (open_between law.node state (place + 1) block)) n (law.sees old).forest)
      → nest_of law.node (law.sees new).forest clones ≡ round_nest law.choices start r
  unfolding world
  clones_made new clones done =
      done k.block _ (from_block law.node state start same_stack r)
      ∙ ap (λ b. nest law.choices start.formatting (to_clone start.formatting b) k.block start.forest) (between_is law.node state start same_stack r)

  -- the block may be moved then
  pub may_move : (new : S) (last : ℕ) → world_of law new state ≡ with_forest (round_nest law.choices start r).forest start → last ≡ (round_nest law.choices start r).outermost → MayMove place last (world_of law new state)
  may_move new last e h =
      let made = nest_all law.choices start r.ready r.may in
      subst (MayMove place last) (sym e)
      (subst (λ n. MayMove place n (with_forest (round_nest law.choices start r).forest start)) (sym h)
      (record {
        name = name;
        element = f;
        furthest = k;
        may = may_adopt_kept start (round_nest law.choices start r).forest r.ready.sound made.kinds r.may;
        loose = made.loose;
        root = root_kept start (round_nest law.choices start r).forest r.ready.sound made.kinds r.ready.root;
        at = record { is_open = r.may.is_open; here = r.open_at };
      }))

  -- it is moved
  pub block_moved : (made new : S) (last : ℕ) → world_of law made state ≡ with_forest (round_nest law.choices start r).forest start → (law.sees made).forest ≡ (round_nest law.choices start r).forest → last ≡ (round_nest law.choices start r).outermost
      → law.sees new ≡ changed (λ g. put (appropriate_place (world_of law made state) (first_or (root (world_of law made state)) (stack_under law.node state place))) (ChildNode last) (detach last g)) (law.sees made)
      → (law.sees new).forest ≡ placed f (round_nest law.choices start r) start
  block_moved made new last e forest h moved =
      let n = round_nest law.choices start r in
      let in_midst = with_forest n.forest start in
      ap (λ (s : Seen). s.forest) moved
      ∙ ap (λ w. put (appropriate_place w (first_or (root w) (stack_under law.node state place))) (ChildNode last) (detach last (law.sees made).forest)) e
      ∙ ap (λ g. put (appropriate_place in_midst (first_or (root in_midst) (stack_under law.node state place))) (ChildNode last) (detach last g)) forest
      ∙ ap (λ s. put (appropriate_place in_midst (first_or (root in_midst) s)) (ChildNode last) (detach last n.forest)) (sym (under_element law.node state start same_stack r))
      ∙ ap (λ t. put (appropriate_place in_midst t) (ChildNode last) (detach last n.forest)) (some_first (root in_midst) (root start) (older_than f.node start.stack) (older_some start r.may r.ready.sound r.ready.root))
      ∙ ap (λ m. put (appropriate_place in_midst (common_ancestor f start)) (ChildNode m) (detach m n.forest)) h

  -- its children are moved, and the sink is notified of the formatting element
  pub refilled_and_told : (moved filled new : S) (b n : ℕ) (tag : TagText) → (law.sees moved).forest ≡ placed f (round_nest law.choices start r) start → b ≡ k.block → tag ≡ f.tag → n ≡ f.node
      → law.sees filled ≡ changed (λ g. with_last_child b (ChildNode (law.choices.fresh g)) (reparent b (law.choices.fresh g) (make_for law.choices tag g))) (law.sees moved)
      → law.sees new ≡ after_pop law.choices n (law.sees filled)
      → (law.sees new).forest ≡ round_forest law.choices start r
  refilled_and_told moved filled new b n tag e same_b same_tag same_n fill told =
      ap (λ (s : Seen). s.forest) (told ∙ ap (after_pop law.choices n) fill)
      ∙ ap (λ m. (after_pop law.choices m (changed (λ g. with_last_child b (ChildNode (law.choices.fresh g)) (reparent b (law.choices.fresh g) (make_for law.choices tag g))) (law.sees moved))).forest) same_n
      ∙ ap (λ m. (after_pop law.choices f.node (changed (λ g. with_last_child m (ChildNode (law.choices.fresh g)) (reparent m (law.choices.fresh g) (make_for law.choices tag g))) (law.sees moved))).forest) same_b
      ∙ ap (λ t. (after_pop law.choices f.node (changed (λ g. with_last_child k.block (ChildNode (law.choices.fresh g)) (reparent k.block (law.choices.fresh g) (make_for law.choices t g))) (law.sees moved))).forest) same_tag
      ∙ ap (refilled law.choices f k.block) e

  -- the list follows
  pub may_relist : (new : S) (made : List ℕ) (own : ℕ) → world_of law new state ≡ with_forest (round_forest law.choices start r) start → made ≡ (round_nest law.choices start r).clones → own ≡ own_clone law.choices start r
      → Relists f k.between made own at (place + 1) block (world_of law new state)
  may_relist new made own e m o =
      subst (Relists f k.between made own at (place + 1) block) (sym e)
      (subst (λ ms. Relists f k.between ms own at (place + 1) block (with_forest (round_forest law.choices start r) start)) (sym m)
      (subst (λ c. Relists f k.between (round_nest law.choices start r).clones c at (place + 1) block (with_forest (round_forest law.choices start r) start)) (sym o) (relists law.choices start r)))

  -- and the stack
  pub new_stack : (relisted : State H) (handles : List ℕ) (made : List ℕ) (own : ℕ) → reverse (map (open_node law.node) (elements_of relisted)) ≡ start.stack → made ≡ (round_nest law.choices start r).clones → own ≡ own_clone law.choices start r
      → handles ≡ own ∷ k.block ∷ made
      → (stack_over law.node relisted (block + 1) ++ handles) ++ stack_under law.node relisted place ≡ round_stack k.newer (own_clone law.choices start r) k.block (round_nest law.choices start r).clones (older_than f.node start.stack)
  unfolding stack_over
  new_stack relisted handles made own e m o h =
      let n = round_nest law.choices start r in
      let older = older_than f.node start.stack in
      let over : stack_over law.node relisted (block + 1) ≡ k.newer =
      sym (seen_at (open_node law.node) (elements_of relisted) (block + 1) k.newer (k.block ∷ (k.between ++ f.node ∷ older)) (e ∙ round_split law.node state start same_stack r) (omega (arith, under_length law.node state start same_stack r))).0 in
      ap (λ s. (stack_over law.node relisted (block + 1) ++ handles) ++ s) (sym (older_under law.node relisted f.node place start.stack (sym e) r.may.is_open r.open_at))
      ∙ ap (λ s. (s ++ handles) ++ older) over
      ∙ ap (λ s. (k.newer ++ s) ++ older) (h ∙ ap (λ ms. own ∷ k.block ∷ ms) m ∙ ap (λ c. c ∷ k.block ∷ n.clones) o)
      ∙ append_assoc k.newer (own_clone law.choices start r ∷ k.block ∷ n.clones) older

  -- the world is sound then
  pub all_after : AllStand (round_forest law.choices start r) (round_stack k.newer (own_clone law.choices start r) k.block (round_nest law.choices start r).clones (older_than f.node start.stack))
      (round_list f.node f.tag k.between (round_nest law.choices start r).clones (own_clone law.choices start r) start.formatting) start.head start.form start.context
  all_after = (adopt_ready law.choices start r.ready r.may).sound

  -- the world after list and stack were written
  pub world_relisted : (mid relisted : World) (made : List ℕ) (own : ℕ) → mid ≡ with_forest (round_forest law.choices start r) start → made ≡ (round_nest law.choices start r).clones → own ≡ own_clone law.choices start r
      → relisted ≡ record mid { formatting = round_list f.node f.tag k.between made own mid.formatting }
      → relisted ≡ record start { forest = round_forest law.choices start r; formatting = round_list f.node f.tag k.between (round_nest law.choices start r).clones (own_clone law.choices start r) start.formatting }
  world_relisted mid relisted made own e m o done =
      let g = round_forest law.choices start r in
      done ∙ ap (λ (v : World). record v { formatting = round_list f.node f.tag k.between made own v.formatting }) e
      ∙ ap (λ ms. record start { forest = g; formatting = round_list f.node f.tag k.between ms own start.formatting }) m
      ∙ ap (λ c. record start { forest = g; formatting = round_list f.node f.tag k.between (round_nest law.choices start r).clones c start.formatting }) o

-- the statement about each round with these places
pub adopted_told : {T E : Type 0} (result : Result T E) (choices : SinkChoices) (place at block : ℕ) (w new done : World) → OnOk result (new ≡ done)
    → ((name : List ℕ) (f : FormattingElement) (k : FurthestBlock) → IsRound name f k place at block w → done ≡ adopt choices f k w)
    → OnOk result ((name : List ℕ) (f : FormattingElement) (k : FurthestBlock) → IsRound name f k place at block w → new ≡ adopt choices f k w)
adopted_told (Err x) choices place at block w new done e all = tt
adopted_told (Ok x) choices place at block w new done e all = λ name f k r. e ∙ all name f k r
