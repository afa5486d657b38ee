-- The stamps of entries when some are added, moved or removed.
use Rattle.std.proofs.Common.{◌≡◌, ◌<◌, ◌≤◌, ℕ, suc, List, [], ◌∷◌, ◌++◌, drop, get_or, length, set, take, ◌⊎◌, inl, inr, refl, sym, subst}
use Rattle.std.specs.List.{All, insert, remove}
use Rattle.std.proofs.Math.Seq.{take-append_seam}
use Rattle.std.proofs.lemmas.List.{get_or_default}
use Rattle.std.proofs.lemmas.List.Elements.{All-append, All-cons, All-drop, All-push, All-set, All-take}
use Rattle.h5_tables.specs.declared.entry.FormatEntry.{FormatEntry}
use Rattle.h5_tables.specs.declared.entry.FormatEntry.TheVariants.{Element, Marker}
use Rattle.h5_builder_spec.specs.formatting.FormattingList.{nodes_of}
use Rattle.h5_builder_spec.specs.stack.Order.{IsIn}
use Rattle.h5_token.specs.TokenText.{tag_text}
use Rattle.h5_builder_state.specs.Listed.{entries_of, entry_of, with_handle}
use Rattle.h5_builder_state.specs.Stamps.{AreStamped, IsAbove, IsStamped, MayStandBelow, NoneLower, stamps_of}
use Rattle.h5_builder_state.specs.View.{listed_node}
use Rattle.h5_builder_state.specs.declared.open_element.Listed.{Listed}
use Rattle.h5_builder_state.specs.declared.open_element.OpenElements.{OpenElements}
use Rattle.h5_builder_actions.specs.Restacks.{IsPushed, MayRestack}
use Rattle.h5_builder_actions.proofs.ListLaws.{entries_cut}
use Rattle.h5_builder_actions.proofs.NodeLaws.{entry_in}

module _ {X : Type 0} (P : X → Type 0) where
  -- what holds for all, where one is taken out, or comes to stand elsewhere
  pub all_removed : (xs : List X) (i : ℕ) → All P xs → All P (remove xs i)
  all_removed xs i h = All-append P (take i xs) (drop (suc i) xs) (All-take P i xs h) (All-drop P (suc i) xs h)

  pub all_moved : (xs : List X) (from to : ℕ) (x : X) → from < length xs → x ≡ get_or xs from x → All P xs → All P (insert (remove xs from) to x)
  all_moved xs from to x h e all =
      let left = all_removed xs from all in
      let one : P x = subst P (sym e) (all from x h) in
      All-append P (take to (remove xs from)) (x ∷ drop to (remove xs from)) (All-take P to (remove xs from) left) (All-cons P x (drop to (remove xs from)) one (All-drop P to (remove xs from) left))

module _ {H : Type 0} (node : H → ℕ) (open_elems : OpenElements H) where
  abbrev stamped_entry : FormatEntry (Listed H) → Type 0
  stamped_entry entry = IsStamped node (stamps_of node open_elems) open_elems.last entry

  pub stamped_entry_pushed : (xs : List (FormatEntry (Listed H))) (x : FormatEntry (Listed H)) → stamped_entry x → AreStamped node open_elems xs → AreStamped node open_elems (xs ++ x ∷ [])
  unfolding AreStamped
  stamped_entry_pushed xs x h s = All-push stamped_entry xs x s h

  pub stamped_entry_older : (xs ys rest : List (FormatEntry (Listed H))) → xs ≡ ys ++ rest → AreStamped node open_elems xs → AreStamped node open_elems ys
  unfolding AreStamped
  stamped_entry_older xs ys rest e s = subst (All stamped_entry) (take-append_seam ys rest) (All-take stamped_entry (length ys) (ys ++ rest) (subst (All stamped_entry) e s))

  pub stamped_entry_removed : (xs : List (FormatEntry (Listed H))) (i : ℕ) → AreStamped node open_elems xs → AreStamped node open_elems (remove xs i)
  unfolding AreStamped
  stamped_entry_removed xs i s = all_removed stamped_entry xs i s

  pub stamped_entry_set : (xs : List (FormatEntry (Listed H))) (i : ℕ) (x : FormatEntry (Listed H)) → stamped_entry x → AreStamped node open_elems xs → AreStamped node open_elems (set xs i x)
  unfolding AreStamped
  stamped_entry_set xs i x h s = All-set stamped_entry xs i x h s

  -- a new one came, and one may have left
  pub stamped_entry_listed : (xs ys : List (FormatEntry (Listed H))) (x : FormatEntry (Listed H)) → stamped_entry x → IsPushed x xs ys → AreStamped node open_elems xs → AreStamped node open_elems ys
  stamped_entry_listed xs ys x h p s =
      let more = stamped_entry_pushed xs x h s in
      elim p [
        | inl e ↦ subst (AreStamped node open_elems) (sym e) more
        | inr r ↦ subst (AreStamped node open_elems) (sym r.1) (stamped_entry_removed (xs ++ x ∷ []) r.0 more)
      ]

  -- the entry of another element has its stamp
  pub stamped_handed : (listed : Listed H) (x : FormatEntry (Listed H)) → listed.stamp ≤ open_elems.last → IsAbove (node listed.handle) listed.stamp (stamps_of node open_elems) → stamped_entry (with_handle listed x)
  stamped_handed listed (Element other tag) h a = (h, a)
  stamped_handed listed Marker h a = tt

  module _ (place : ℕ) (ns : List ℕ) where
    abbrev low_entry : FormatEntry (Listed H) → Type 0
    low_entry entry = MayStandBelow node (drop place (stamps_of node open_elems)) ns entry

    pub restack_removed : (xs : List (FormatEntry (Listed H))) (i : ℕ) → MayRestack node open_elems place ns xs → MayRestack node open_elems place ns (remove xs i)
    restack_removed xs i m = record { stamped = stamped_entry_removed xs i m.stamped; below = all_removed low_entry xs i m.below }

    pub restack_moved : (xs : List (FormatEntry (Listed H))) (from to : ℕ) (x : FormatEntry (Listed H)) → from < length xs → x ≡ get_or xs from x → MayRestack node open_elems place ns xs → MayRestack node open_elems place ns (insert (remove xs from) to x)
    unfolding AreStamped
    restack_moved xs from to x h e m = record { stamped = all_moved stamped_entry xs from to x h e m.stamped; below = all_moved low_entry xs from to x h e m.below }

    pub restack_set : (xs : List (FormatEntry (Listed H))) (i : ℕ) (x : FormatEntry (Listed H)) → stamped_entry x → low_entry x → MayRestack node open_elems place ns xs → MayRestack node open_elems place ns (set xs i x)
    restack_set xs i x h l m = record { stamped = stamped_entry_set xs i x h m.stamped; below = All-set low_entry xs i x l m.below }

    pub low_handed : (listed : Listed H) (x : FormatEntry (Listed H)) → NoneLower listed.stamp (drop place (stamps_of node open_elems)) → low_entry (with_handle listed x)
    low_handed listed (Element other tag) h = λ i. h
    low_handed listed Marker h = tt

    -- no such element is listed
    pub low_unlisted : (xs : List (FormatEntry (Listed H))) → ((n : ℕ) → IsIn n ns → ¬ (IsIn n (nodes_of (entries_of (listed_node node) xs)))) → All low_entry xs
    low_unlisted xs out = λ k d h. at k (get_or xs k d) h (sym (get_or_default xs k d (get_or xs k d) h))
      where
        at : (k : ℕ) (x : FormatEntry (Listed H)) → k < length xs → get_or xs k x ≡ x → low_entry x
        at k (Element listed tag) h e = λ i. absurd (out (node listed.handle) i (entry_in (entries_of (listed_node node) xs) _ _ (entry_of (listed_node node) (Element listed tag)) (node listed.handle) (tag_text tag) (entries_cut (listed_node node) xs k (Element listed tag) h (sym e)) refl))
        at k Marker h e = tt

    -- an entry of another element that stands no higher
    pub low_either : (n : ℕ) (xs : List (FormatEntry (Listed H))) → AreStamped node open_elems xs → ((stamp : ℕ) → IsAbove n stamp (stamps_of node open_elems) → NoneLower stamp (drop place (stamps_of node open_elems)))
        → (ms : List ℕ) → ((m : ℕ) → IsIn m ms → (m ≡ n) ⊎ IsIn m ns) → All low_entry xs → All (λ (entry : FormatEntry (Listed H)). MayStandBelow node (drop place (stamps_of node open_elems)) ms entry) xs
    unfolding AreStamped
    low_either n xs s low ms split all = λ k d h. at (get_or xs k d) (s k d h) (all k d h)
      where
        at : (x : FormatEntry (Listed H)) → stamped_entry x → low_entry x → MayStandBelow node (drop place (stamps_of node open_elems)) ms x
        at (Element listed tag) k l = λ i. elim (split (node listed.handle) i) [
          | inl e ↦ low listed.stamp (subst (λ m. IsAbove m listed.stamp (stamps_of node open_elems)) e k.1)
          | inr j ↦ l j
        ]
        at Marker k l = tt

-- the same open elements
pub restack_by : {H : Type 0} (node : H → ℕ) (o p : OpenElements H) (place : ℕ) (ns : List ℕ) (old new : List (FormatEntry (Listed H))) → p ≡ o → (MayRestack node p place ns old → MayRestack node p place ns new)
    → MayRestack node o place ns old → MayRestack node o place ns new
restack_by node o p place ns old new e step m = subst (λ q. MayRestack node q place ns new) e (step (subst (λ q. MayRestack node q place ns old) (sym e) m))

-- the second of some, or another
pub among : (m a b : ℕ) (cs : List ℕ) → IsIn m (a ∷ b ∷ cs) → (m ≡ b) ⊎ IsIn m (a ∷ cs)
among m a b cs (inl e) = inr (inl e)
among m a b cs (inr (inl e)) = inl e
among m a b cs (inr (inr i)) = inr (inr i)
