-- The places of elements and entries in a round of the adoption agency.
use Rattle.std.proofs.Common.{◌≡◌, ◌+◌, ◌-◌, ◌<◌, ◌≤◌, ℕ, List, [], ◌∷◌, ◌++◌, append_assoc, length, length-append, map, reverse, take, Some, inl, inr, refl, ap, sym, subst, ◌∙◌, arith}
use Rattle.std.proofs.lemmas.List.{take-append-le, take_all}
use Rattle.h5_token.specs.TokenText.{TagText}
use Rattle.h5_interface.specs.Forest.{Forest, parent_of}
use Rattle.h5_interface.specs.SinkChoices.{SinkChoices}
use Rattle.h5_builder_spec.specs.formatting.Adoption.{FormattingElement, FurthestBlock, newer_than, older_than, to_clone}
use Rattle.h5_builder_spec.specs.formatting.FormattingList.{ElementEntry, nodes_of}
use Rattle.h5_builder_spec.specs.formatting.FormattingNames.{IsOfTag}
use Rattle.h5_builder_spec.specs.formatting.Fresh.{AreFresh}
use Rattle.h5_builder_spec.specs.formatting.InnerLoop.{MayWalk}
use Rattle.h5_builder_spec.specs.stack.Order.{Before, Distinct, IsIn}
use Rattle.h5_builder_spec.proofs.entries.EachLaws.{each_at}
use Rattle.h5_builder_spec.proofs.entries.EntryLaws.{nodes_of-append}
use Rattle.h5_builder_spec.proofs.entries.PairLaws.{before_across, before_first, before_left, before_right, before_second}
use Rattle.h5_builder_spec.proofs.entries.PassLaws.{furthest_block_at, ordered_distinct, stack_split}
use Rattle.h5_builder_spec.specs.formatting.AdoptionAgency.{Nest, nest, placed, refilled, tag_in}
use Rattle.h5_builder_spec.specs.Changes.{with_forest}
use Rattle.h5_builder_spec.proofs.adoption.AdoptionForest.{before_trans}
use Rattle.h5_builder_spec.proofs.adoption.AdoptionRound.{clone_of_tag, clones_of_tags, each_tag_in, round_count, round_fresh, round_refilled, tagged, to_clone_is_listed, original_in}
use Rattle.h5_builder_actions.specs.Relists.{Relists}
use Rattle.h5_builder_spec.specs.World.{World}
use Rattle.h5_builder_state.specs.View.{elements_of, open_node, stack_under}
use Rattle.h5_builder_state.specs.declared.state.State.{State}
use Rattle.h5_builder_actions.specs.Hanging.{open_between}
use Rattle.h5_builder_actions.specs.Rounds.{IsRound}
use Rattle.h5_builder_actions.proofs.CloneLaws.{same_tail}
use Rattle.h5_builder_actions.proofs.MoveLaws.{older_under}
use Rattle.h5_builder_actions.proofs.OpenLaws.{length_under, stack_cut}

module _ {H : Type 0} {name : List ℕ} {f : FormattingElement} {k : FurthestBlock} {place at block : ℕ} (node : H → ℕ) (state : State H) (w : World) (same : w.stack ≡ reverse (map (open_node node) (elements_of state))) (r : IsRound name f k place at block w) where
  abbrev older : List ℕ
  older = older_than f.node w.stack

  -- the stack, cut at the furthest block and at the formatting element
  pub round_split : w.stack ≡ k.newer ++ k.block ∷ (k.between ++ f.node ∷ older)
  round_split =
      stack_split f.node w.stack r.may.is_open
      ∙ ap (λ s. s ++ f.node ∷ older) (furthest_block_at _ (newer_than f.node w.stack) k r.may.block).cut
      ∙ append_assoc k.newer (k.block ∷ k.between) (f.node ∷ older)

  pub under_element : older_than f.node w.stack ≡ stack_under node state place
  under_element = older_under node state f.node place w.stack same r.may.is_open r.open_at

  pub block_inside : block < length w.stack
  block_inside = omega (arith, r.block_at, r.open_at, ap length round_split, length-append k.newer (k.block ∷ (k.between ++ f.node ∷ older)), length-append k.between (f.node ∷ older))

  few : block ≤ length (reverse (map (open_node node) (elements_of state)))
  few = omega (arith, block_inside, ap length same)

  few_more : block + 1 ≤ length (reverse (map (open_node node) (elements_of state)))
  few_more = omega (arith, block_inside, ap length same)

  pub under_length : length (k.between ++ f.node ∷ older) ≡ block
  under_length = omega (arith, r.block_at, r.open_at, length-append k.between (f.node ∷ older))

  pub under_block : stack_under node state block ≡ k.between ++ f.node ∷ older
  under_block =
      let cut = stack_cut node state block in
      same_tail cut.newer (k.newer ++ k.block ∷ []) (stack_under node state block) (k.between ++ f.node ∷ older)
      (sym cut.cut ∙ sym same ∙ round_split ∙ sym (append_assoc k.newer (k.block ∷ []) (k.between ++ f.node ∷ older)))
      (length_under node state block few ∙ sym under_length)

  pub from_block : stack_under node state (block + 1) ≡ k.block ∷ (k.between ++ f.node ∷ older)
  from_block =
      let cut = stack_cut node state (block + 1) in
      same_tail cut.newer k.newer (stack_under node state (block + 1)) (k.block ∷ (k.between ++ f.node ∷ older))
      (sym cut.cut ∙ sym same ∙ round_split)
      (omega (arith, length_under node state (block + 1) few_more, under_length))

  -- and what stands at the formatting element's place
  pub from_element : stack_under node state (place + 1) ≡ f.node ∷ older_than f.node w.stack
  from_element =
      let cut = stack_cut node state (place + 1) in
      let enough : place + 1 ≤ length (reverse (map (open_node node) (elements_of state))) = omega (arith, few, r.block_at) in
      same_tail cut.newer (newer_than f.node w.stack) (stack_under node state (place + 1)) (f.node ∷ older_than f.node w.stack)
      (sym cut.cut ∙ sym same ∙ stack_split f.node w.stack r.may.is_open)
      (omega (arith, length_under node state (place + 1) enough, r.open_at))

  pub between_is : open_between node state (place + 1) block ≡ k.between
  between_is =
      let count : block - (place + 1) ≡ length k.between = omega (arith, r.block_at) in
      ap (λ j. take j (stack_under node state block)) count ∙ ap (take (length k.between)) under_block
      ∙ take-append-le (length k.between) k.between (f.node ∷ older) (omega arith) ∙ take_all (length k.between) k.between (omega arith)

module _ (choices : SinkChoices) {name : List ℕ} {f : FormattingElement} {k : FurthestBlock} {place at block : ℕ} (w : World) (r : IsRound name f k place at block w) where
  abbrev pub round_nest : Nest
  round_nest = nest choices w.formatting (to_clone w.formatting k.between) k.block w.forest

  abbrev pub round_forest : Forest
  round_forest = refilled choices f k.block (placed f round_nest w)

  abbrev pub own_clone : ℕ
  own_clone = choices.fresh (placed f round_nest w)

  split : w.stack ≡ k.newer ++ k.block ∷ (k.between ++ f.node ∷ older_than f.node w.stack)
  split =
      stack_split f.node w.stack r.may.is_open
      ∙ ap (λ s. s ++ f.node ∷ older_than f.node w.stack) (furthest_block_at _ (newer_than f.node w.stack) k r.may.block).cut
      ∙ append_assoc k.newer (k.block ∷ k.between) (f.node ∷ older_than f.node w.stack)

  distinct : Distinct w.stack
  distinct = ordered_distinct (parent_of w.forest) w.stack r.ready.sound.stands.ordered

  -- elements between stand in the stack, above the formatting element
  between_before : (x y : ℕ) → Before (k.between ++ f.node ∷ older_than f.node w.stack) x y → Before w.stack x y
  between_before x y h = subst (λ s. Before s x y) (sym split) (before_right x y k.newer (k.block ∷ (k.between ++ f.node ∷ older_than f.node w.stack)) (inr h))

  between_open : (x : ℕ) → IsIn x k.between → IsIn x w.stack
  between_open x i = before_first x f.node w.stack (between_before x f.node (before_across x f.node k.between (f.node ∷ older_than f.node w.stack) i (inl refl)))

  fresh : AreFresh (own_clone ∷ round_nest.clones) w.stack w.formatting
  fresh = round_fresh choices w r.ready r.may

  walk : MayWalk 3 k.between round_nest.clones w.formatting
  walk = record {
    between = λ x h. distinct x (between_before x x (before_left x x k.between (f.node ∷ older_than f.node w.stack) h));
    listed = r.ready.lists.agrees.once;
    as_many = round_count choices w r.ready r.may;
    clones = λ x h. fresh.distinct x (inr h);
    apart = λ y i h. fresh.unopened y (inr i) (between_open y h);
    new = λ y i. fresh.unlisted y (inr i);
  }

  -- an element between that is listed has a newer entry than the formatting element
  above : (x : ℕ) → IsIn x k.between → IsIn x (nodes_of (ElementEntry f.node f.tag ∷ r.older)) → ⊥
  above x i (inl e) = distinct f.node (subst (λ z. Before w.stack z f.node) e (between_before x f.node (before_across x f.node k.between (f.node ∷ older_than f.node w.stack) i (inl refl))))
  above x i (inr h) =
      let newer = between_before x f.node (before_across x f.node k.between (f.node ∷ older_than f.node w.stack) i (inl refl)) in
      let listed : Before (nodes_of w.formatting) f.node x = subst (λ l. Before (nodes_of l) f.node x) (sym r.cut)
      (subst (λ s. Before s f.node x) (sym (nodes_of-append r.newer (ElementEntry f.node f.tag ∷ r.older)))
      (before_right f.node x (nodes_of r.newer) (f.node ∷ nodes_of r.older) (inl (refl, h)))) in
      let older = r.ready.lists.agrees.order f.node x (before_second x f.node w.stack newer) (between_open x i) listed in
      distinct x (before_trans x f.node x w.stack distinct newer older)

  of_tag : (x : ℕ) (t : TagText) → tag_in w.formatting x ≡ Some t → IsOfTag round_forest x t
  of_tag x t e = each_tag_in (IsOfTag round_forest) w.formatting x t (round_refilled choices w r.ready r.may).listed e

  pub relists : Relists f k.between round_nest.clones own_clone at (place + 1) block (with_forest round_forest w)
  relists = record {
    newer = r.newer;
    older = r.older;
    cut = r.cut;
    here = r.listed_at;
    from_block = k.newer ++ k.block ∷ [];
    below = older_than f.node w.stack;
    stack = split ∙ sym (append_assoc k.newer (k.block ∷ []) (k.between ++ f.node ∷ older_than f.node w.stack));
    lowest = ap (λ j. j + 1) r.open_at;
    highest = r.block_at;
    may_walk = walk;
    above = λ x i h. above x i h;
    new = fresh.unlisted own_clone (inl refl);
    unopened = λ y i. fresh.unopened y i;
    alike = λ y x h.
        let tag = tagged w.formatting x (to_clone_is_listed w.formatting k.between x (original_in (to_clone w.formatting k.between) round_nest.clones y x h)) in
        clones_of_tags choices w r.ready r.may y x tag.0 h tag.1 ∙ sym (of_tag x tag.0 tag.1);
    own = clone_of_tag choices w r.ready r.may ∙ sym (each_at (IsOfTag round_forest) r.newer r.older w.formatting f.node f.tag r.cut (round_refilled choices w r.ready r.may).listed);
  }
