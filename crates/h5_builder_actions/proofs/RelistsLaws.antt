-- A round changes the list.
use Rattle.std.proofs.Common.{◌≡◌, ◌+◌, ◌-◌, ◌<◌, ◌≤◌, ℕ, List, [], ◌∷◌, ◌++◌, append_assoc, length, length-append, map, reverse, take, inl, inr, ap, sym, subst, ◌∙◌, arith}
use Rattle.std.specs.Prelude.{Some}
use Rattle.std.proofs.Math.Seq.{take-append_seam}
use Rattle.h5_token.specs.TokenText.{TagText}
use Rattle.h5_interface.specs.declared.sink.TreeSink.{Ghosts}
use Rattle.h5_builder_spec.specs.formatting.Adoption.{FormattingElement, replaced_by, round_list, to_clone}
use Rattle.h5_builder_spec.specs.formatting.FormattingList.{ElementEntry, Entry, nodes_of}
use Rattle.h5_builder_spec.specs.formatting.FormattingNames.{IsOfTag}
use Rattle.h5_builder_spec.specs.formatting.InnerLoop.{MayWalk, walked}
use Rattle.h5_builder_spec.specs.stack.Order.{IsIn}
use Rattle.h5_builder_spec.proofs.entries.EachLaws.{each_at, each_round}
use Rattle.h5_builder_spec.proofs.entries.KeptListsLaws.{EntryCut, entry_cut}
use Rattle.h5_builder_spec.proofs.entries.RoundLaws.{replaced_by_which}
use Rattle.h5_builder_spec.specs.Sound.{Sound}
use Rattle.h5_builder_spec.specs.World.{World, names_of}
use Rattle.h5_builder_state.specs.Stamps.{AreStamped}
use Rattle.h5_builder_state.specs.Steps.{IsSound, world_of}
use Rattle.h5_builder_state.specs.Summaries.{IsKept}
use Rattle.h5_builder_state.specs.View.{elements_of, open_node, stack_under}
use Rattle.h5_builder_state.specs.declared.state.State.{State}
use Rattle.h5_builder_actions.specs.Relists.{Relists}
use Rattle.h5_builder_actions.proofs.RelistLaws.{first_walked, list_walked, round_above, round_alone}
use Rattle.h5_builder_state.proofs.SeenLaws.{seen_at}

-- the world is still sound, where the list alone changed
pub sound_relisted : {S H O : Type 0} (law : Ghosts S H O) (sink : S) (old new : State H) (l : List Entry) → new.open_elems ≡ old.open_elems
    → world_of law sink new ≡ record (world_of law sink old) { formatting = l } → IsSound law sink old → Sound (record (world_of law sink old) { formatting = l }) → AreStamped law.node old.open_elems new.active_formatting → IsSound law sink new
unfolding names_of
sound_relisted law sink old new l same is k stands stamped = record {
  sound = subst Sound (sym is) stands;
  kept = subst (λ open_elems. IsKept open_elems (names_of (world_of law sink new))) (sym same) (subst (λ (u : World). IsKept old.open_elems (names_of u)) (sym is) k.kept);
  stamped = subst (λ open_elems. AreStamped law.node open_elems new.active_formatting) (sym same) stamped;
}

module _ (f : FormattingElement) (between clones : List ℕ) (clone at first block : ℕ) (w : World) (r : Relists f between clones clone at first block w) where
  abbrev pub walk : List Entry
  walk = walked 3 between clones r.newer

  pub block_inside : block ≤ length w.stack
  block_inside = omega (arith, r.highest, r.lowest, ap length r.stack, length-append r.from_block (between ++ f.node ∷ r.below), length-append between (f.node ∷ r.below))

  pub between_taken : {H : Type 0} (node : H → ℕ) (state : State H) → w.stack ≡ reverse (map (open_node node) (elements_of state)) → take (block - first) (stack_under node state block) ≡ between
  unfolding stack_under
  between_taken node state e =
      let low = between ++ f.node ∷ r.below in
      let under = seen_at (open_node node) (elements_of state) block r.from_block low (sym e ∙ r.stack) (omega (arith, r.highest, r.lowest, length-append between (f.node ∷ r.below))) in
      let count : block - first ≡ length between = omega (arith, r.highest) in
      ap (take (block - first)) (sym under.1) ∙ ap (λ i. take i low) count ∙ take-append_seam between (f.node ∷ r.below)

  -- the formatting element, and what is older
  pub element_under : {H : Type 0} (node : H → ℕ) (state : State H) → w.stack ≡ reverse (map (open_node node) (elements_of state)) → stack_under node state (first - 1 + 1) ≡ f.node ∷ r.below
  unfolding stack_under
  element_under node state e =
      let low = f.node ∷ r.below in
      sym (seen_at (open_node node) (elements_of state) (first - 1 + 1) (r.from_block ++ between) low (sym e ∙ r.stack ∙ sym (append_assoc r.from_block between low)) (omega (arith, r.lowest))).1

  -- no clone is listed
  pub none_listed : (n : ℕ) → IsIn n (clone ∷ clones) → ¬ (IsIn n (nodes_of w.formatting))
  none_listed n (inl e) = subst (λ m. ¬ (IsIn m (nodes_of w.formatting))) (sym e) r.new
  none_listed n (inr i) = r.may_walk.new n i

  may : MayWalk 3 between clones (r.newer ++ ElementEntry f.node f.tag ∷ r.older)
  may = subst (MayWalk 3 between clones) r.cut r.may_walk

  new : ¬ (IsIn clone (nodes_of (r.newer ++ ElementEntry f.node f.tag ∷ r.older)))
  new = subst (λ l. ¬ (IsIn clone (nodes_of l))) r.cut r.new

  pub relist_walked : walked 3 between clones w.formatting ≡ walk ++ ElementEntry f.node f.tag ∷ r.older
  relist_walked = ap (walked 3 between clones) r.cut ∙ list_walked f.node clone f.tag between clones r.newer r.older may r.above new

  pub relist_alone : clones ≡ [] → round_list f.node f.tag between clones clone w.formatting ≡ walk ++ ElementEntry clone f.tag ∷ r.older
  relist_alone none = ap (round_list f.node f.tag between clones clone) r.cut ∙ round_alone f.node clone f.tag between clones r.newer r.older may r.above new none

  pub first_cut : (y : ℕ) (ys : List ℕ) → clones ≡ y ∷ ys → EntryCut y walk
  first_cut y ys some = entry_cut y walk (first_walked f.node clone f.tag between clones r.newer r.older may r.above new y ys some)

  pub relist_above : (y : ℕ) (ys : List ℕ) (k : EntryCut y walk) → clones ≡ y ∷ ys
      → round_list f.node f.tag between clones clone w.formatting ≡ k.front ++ ElementEntry clone f.tag ∷ ElementEntry y k.tag ∷ (k.rest ++ r.older)
  relist_above y ys k some =
      ap (round_list f.node f.tag between clones clone) r.cut
      ∙ round_above f.node clone f.tag between clones r.newer r.older may r.above new y ys k.tag k.front k.rest some k.cut k.first

  -- the world is sound after it
  pub sound_round : Sound w → Sound (record w { formatting = round_list f.node f.tag between clones clone w.formatting })
  sound_round k = record {
    stands = k.stands;
    root_top = k.root_top;
    head_node = k.head_node;
    form_node = k.form_node;
    form_name = k.form_name;
    apart = k.apart;
    context_node = k.context_node;
    context_out = k.context_out;
    context_no_head = k.context_no_head;
    listed = each_round (IsOfTag w.forest) (IsOfTag w.forest) f.node f.tag between clones clone w.formatting gives
        (r.own ∙ each_at (IsOfTag w.forest) r.newer r.older w.formatting f.node f.tag r.cut k.listed) k.listed;
    formatting = each_round _ _ f.node f.tag between clones clone w.formatting (λ n m t p e. p) (each_at _ r.newer r.older w.formatting f.node f.tag r.cut k.formatting) k.formatting;
  }
    where
      gives : (n m : ℕ) (t : TagText) → IsOfTag w.forest n t → replaced_by between (to_clone w.formatting between) clones n ≡ Some m → IsOfTag w.forest m t
      gives n m t p e = elim (replaced_by_which between (to_clone w.formatting between) clones n m e) [
        | inl i ↦ subst (λ z. IsOfTag w.forest z t) (sym i) p
        | inr i ↦ r.alike m n i ∙ p
      ]

  -- the world after the walk, and where the formatting element's entry is its clone's
  pub walked_world : (bs : List ℕ) (v : World) → bs ≡ between → v ≡ record w { formatting = walked 3 bs clones w.formatting } → v ≡ record w { formatting = walk ++ ElementEntry f.node f.tag ∷ r.older }
  walked_world bs v e h = h ∙ ap (λ z. record w { formatting = walked 3 z clones w.formatting }) e ∙ ap (λ l. record w { formatting = l }) relist_walked

  pub swapped_world : (v u : World) → v ≡ record w { formatting = walk ++ ElementEntry f.node f.tag ∷ r.older }
      → ((newer older : List Entry) → (n : ℕ) → (tag : TagText) → v.formatting ≡ newer ++ ElementEntry n tag ∷ older → at ≡ length older → u ≡ record v { formatting = newer ++ ElementEntry clone tag ∷ older })
      → u ≡ record w { formatting = walk ++ ElementEntry clone f.tag ∷ r.older }
  swapped_world v u e done =
      done walk r.older f.node f.tag (ap (λ (x : World). x.formatting) e) r.here ∙ ap (λ (x : World). record x { formatting = walk ++ ElementEntry clone f.tag ∷ r.older }) e

  pub place_inside : (e : Entry) (v : World) → v ≡ record w { formatting = walk ++ e ∷ r.older } → at < length v.formatting
  place_inside e v h = omega (arith, ap (λ (x : World). length x.formatting) h, length-append walk (e ∷ r.older), r.here)
