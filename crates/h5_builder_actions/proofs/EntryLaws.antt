-- Walks over the list of active formatting elements, the newest entry first.
use Rattle.std.proofs.Common.{◌≡◌, ℕ, true, cond, List, [], ◌∷◌, ◌++◌, map, reverse, take, drop, append_assoc, inl, inr, ap, sym, subst, ◌∙◌}
use Rattle.std.proofs.lemmas.List.{map-append, reverse-append, take-append-drop}
use Rattle.h5_token.specs.TokenText.{TagText}
use Rattle.h5_builder_spec.specs.formatting.FormattingList.{ElementEntry, Entry, nodes_of}
use Rattle.std.proofs.lemmas.Bool.{ne_eqb}
use Rattle.h5_builder_spec.specs.stack.Order.{IsIn, is_in}
use Rattle.h5_builder_spec.proofs.entries.EntryLaws.{nodes_of-append}
use Rattle.h5_builder_spec.proofs.entries.PairLaws.{in_split}
use Rattle.h5_builder_state.specs.Listed.{entry_of}
use Rattle.h5_builder_state.specs.declared.state.State.{State}
use Rattle.h5_builder_state.specs.View.{listed_node}
use Rattle.h5_builder_actions.specs.View.{list_under}

-- newer entries, before what is left, aren't those of an element
pub record Passed (n : ℕ) (l left : List Entry) : Type 0 where
  pub newer : List Entry
  pub cut : l ≡ newer ++ left
  pub none : ¬ (IsIn n (nodes_of newer))

pub passed_more : (n : ℕ) (l left rest : List Entry) (e : Entry) → left ≡ e ∷ rest → ¬ (IsIn n (nodes_of (e ∷ []))) → Passed n l left → Passed n l rest
passed_more n l left rest e is other p = record {
  newer = p.newer ++ e ∷ [];
  cut = p.cut ∙ ap (λ r. p.newer ++ r) is ∙ sym (append_assoc p.newer (e ∷ []) rest);
  none = λ h. elim (in_split n (nodes_of p.newer) (nodes_of (e ∷ [])) (subst (IsIn n) (nodes_of-append p.newer (e ∷ [])) h)) [ inl i ↦ p.none i | inr i ↦ other i ];
}

-- the list, cut at a place
pub record CutAt (l left : List Entry) : Type 0 where
  pub newer : List Entry
  pub cut : l ≡ newer ++ left

pub list_cut : {H : Type 0} (node : H → ℕ) (state : State H) (count : ℕ) → CutAt (reverse (map (entry_of (listed_node node)) state.active_formatting)) (list_under node state count)
unfolding list_under
list_cut node state count =
    let items = state.active_formatting in
    record {
      newer = reverse (map (entry_of (listed_node node)) (drop count items));
      cut = ap (λ z. reverse (map (entry_of (listed_node node)) z)) (sym (take-append-drop count items))
          ∙ ap reverse (map-append (entry_of (listed_node node)) (take count items) (drop count items))
          ∙ reverse-append (map (entry_of (listed_node node)) (take count items)) (map (entry_of (listed_node node)) (drop count items));
    }

-- an element that isn't that of the next entry is listed where it is among the rest
pub other_entry : (n m : ℕ) (t : TagText) (rest : List Entry) → ¬ (m ≡ n) → is_in n (nodes_of (ElementEntry m t ∷ rest)) ≡ is_in n (nodes_of rest)
other_entry n m t rest other = ap (λ b. cond b true (is_in n (nodes_of rest))) (ne_eqb n m (λ e. other (sym e)))
