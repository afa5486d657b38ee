-- After the adoption agency the entry of the formatting element is at its old place, or it was removed; then the
-- element is closed.
use Rattle.std.proofs.Common.{◌≡◌, ◌≢◌, ◌⊎◌, inl, inr, ◌<◌, ◌≤◌, ℕ, zero, suc, Bool, true, false, not, cond, List, [], ◌∷◌, ◌++◌, append_assoc, length, Option, Some, None, refl, ap, sym, subst, ◌∙◌, arith}
use Rattle.std.specs.Prelude.{◌==◌}
use Rattle.std.specs.List.{list_any}
use Rattle.std.proofs.lemmas.Bool.{eq-eqb, eqb-true, ne_eqb}
use Rattle.h5_token.specs.TokenText.{TagText}
use Rattle.h5_interface.specs.Changes.{mark}
use Rattle.h5_interface.specs.Forest.{ElementNode, IsNode, parent_of}
use Rattle.h5_interface.specs.SinkChoices.{SinkChoices}
use Rattle.h5_interface.proofs.ForestLaws.{node_of_kind, there_alike}
use Rattle.h5_tables.specs.TagSets.{is_default_scope, is_html_named, is_special}
use Rattle.h5_builder_spec.specs.Changes.{generate_implied_end_except, pop, pop_until_named}
use Rattle.h5_builder_spec.specs.inner.Kept.{HasHtmlRoot}
use Rattle.h5_builder_spec.specs.World.{World, name_in, names_of}
use Rattle.h5_builder_spec.specs.formatting.Adoption.{FormattingElement, FurthestBlock, furthest_block, inserted_after, newer_than, newest_named, older_than, replaced, replaced_by, round_list, to_clone, without_node}
use Rattle.h5_builder_spec.specs.formatting.AdoptionAgency.{MayAdopt, Nest, adopt, adopt_at, adopt_by, adopt_within, adoption_agency, is_current_unlisted, nest, placed, remove_from_stack, unlist_and_remove}
use Rattle.h5_builder_spec.specs.formatting.FormattingList.{ElementEntry, Entry, MarkerEntry, nodes_of, without_entry}
use Rattle.h5_builder_spec.specs.formatting.FormattingNames.{html_name}
use Rattle.h5_builder_spec.specs.formatting.Fresh.{AreFresh, no_more}
use Rattle.h5_builder_spec.specs.stack.Closing.{close_named}
use Rattle.h5_names.specs.declared.qualified.QualName.{QualName}
use Rattle.h5_builder_spec.specs.stack.Order.{Distinct, IsIn, but_first, first_or, is_in}
use Rattle.h5_builder_spec.specs.stack.Scope.{comes_before_special, cut_through, is_implied_but}
use Rattle.h5_builder_spec.proofs.adoption.AdoptionPlace.{newest_of_tag}
use Rattle.h5_builder_spec.proofs.adoption.AdoptionRound.{adopt_ready, cut_stack, nest_all, round_fresh, round_kinds, round_placed, round_placed_kinds}
use Rattle.h5_builder_spec.proofs.changes.ClosingLaws.{while_holds}
use Rattle.h5_builder_spec.proofs.entries.EachLaws.{each_inserted_after, each_round, each_without_entry}
use Rattle.h5_builder_spec.proofs.entries.EntryLaws.{nodes_of-append}
use Rattle.h5_builder_spec.proofs.entries.FreshLaws.{made_new}
use Rattle.h5_builder_spec.proofs.entries.KeptListsLaws.{without_entry_gone, without_entry_none}
use Rattle.h5_builder_spec.proofs.entries.PairLaws.{in_left, in_one_more, in_right, in_split, is_in_false, is_in_telling, is_in_true, not_beside}
use Rattle.h5_builder_spec.proofs.entries.PassLaws.{newest_named_at, ordered_distinct}
use Rattle.h5_builder_spec.proofs.entries.ReplaceLaws.{GiveApart, nodes_replaced, replaced_distinct}
use Rattle.h5_builder_spec.proofs.entries.RoundLaws.{replaced_by_apart, replaced_by_result}
use Rattle.h5_builder_actions.specs.EntryPlaces.{entry_at, is_entry_of}
use Rattle.h5_builder_actions.specs.FormattingPlaces.{IsEntryAt, IsListedAt, IsListedOnlyAt, IsOpenOnlyListed}
use Rattle.h5_builder_actions.proofs.AgencyLaws.{found_at, found_entry}
use Rattle.h5_builder_actions.proofs.ListLaws.{entry_at_cut}
use Rattle.h5_builder_actions.proofs.RelistLaws.{each_apart, none_apart}

-- where another element's entry is put in, the same element goes
gone_inserted : (f a c : ℕ) (t : TagText) (l : List Entry) → c ≢ f → ¬ (IsIn f (nodes_of (without_entry f l))) → ¬ (IsIn f (nodes_of (without_entry f (inserted_after a (ElementEntry c t) l))))
gone_inserted f a c t [] other out = out
gone_inserted f a c t (MarkerEntry ∷ l) other out = gone_inserted f a c t l other out
gone_inserted f a c t (ElementEntry n u ∷ l) other out = at (n == a) (n == f) refl out (gone_inserted f a c t l other)
  where
    at : (b d : Bool) → (n == f) ≡ d → ¬ (IsIn f (nodes_of (cond d l (ElementEntry n u ∷ without_entry f l))))
        → (¬ (IsIn f (nodes_of (without_entry f l))) → ¬ (IsIn f (nodes_of (without_entry f (inserted_after a (ElementEntry c t) l)))))
        → ¬ (IsIn f (nodes_of (without_entry f (cond b (ElementEntry c t ∷ ElementEntry n u ∷ l) (ElementEntry n u ∷ inserted_after a (ElementEntry c t) l)))))
    at true d e none go = rw (ne_eqb c f other) (rw e (λ i. elim i [ inl same ↦ other (sym same) | inr j ↦ none j ]))
    at false true e none go =
        rw e (none_apart f (inserted_after a (ElementEntry c t) l) (each_inserted_after (λ m v. m ≢ f) a c t l other (each_apart f l none)))
    at false false e none go = rw e (λ i. elim i [ inl same ↦ none (inl same) | inr j ↦ go (λ k. none (inr k)) j ])

-- A round with a furthest block.

module _ {name : List ℕ} {f : FormattingElement} {k : FurthestBlock} (choices : SinkChoices) (w : World) (ready : HasHtmlRoot w) (may : MayAdopt name f k w) where
  abbrev made : Nest
  made = nest choices w.formatting (to_clone w.formatting k.between) k.block w.forest

  abbrev own : ℕ
  own = choices.fresh (placed f made w)

  abbrev gives : ℕ → Option ℕ
  gives = replaced_by k.between (to_clone w.formatting k.between) made.clones

  -- clones are new
  clone_is_new : (y : ℕ) → IsIn y made.clones → ¬ (IsNode w.forest y)
  clone_is_new y i = made_new w.forest (made.clones ++ []) y ((nest_all choices w ready may).makes [] no_more) (in_left y made.clones [] i)

  own_is_new : ¬ (IsNode w.forest own)
  own_is_new there =
      there_alike w.forest (placed f made w) own (round_placed_kinds choices w ready may own there) there
      (choices.fresh_is_new (placed f made w) (round_placed choices w ready may).stands.is_forest)

  -- so an element that was there and isn't listed isn't listed after the round either
  pub still_gone : (n : ℕ) → IsNode w.forest n → ¬ (IsIn n (nodes_of w.formatting)) → ¬ (IsIn n (nodes_of (adopt choices f k w).formatting))
  still_gone n there out =
      none_apart n (round_list f.node f.tag k.between made.clones own w.formatting)
      (each_round (λ m t. m ≢ n) (λ m t. m ≢ n) f.node f.tag k.between made.clones own w.formatting kept (λ e. own_is_new (subst (IsNode w.forest) (sym e) there)) (each_apart n w.formatting out))
    where
      kept : (x m : ℕ) (t : TagText) → x ≢ n → gives x ≡ Some m → m ≢ n
      kept x m t other e same = elim (replaced_by_result k.between (to_clone w.formatting k.between) made.clones x m e) [
        | inl i ↦ other (sym i ∙ same)
        | inr i ↦ clone_is_new m i (subst (IsNode w.forest) (sym same) there)
      ]

  fresh : AreFresh (own ∷ made.clones) w.stack w.formatting
  fresh = round_fresh choices w ready may

  -- where clones took entries over, no element is listed twice
  handed_over : Distinct (nodes_of (replaced gives w.formatting))
  handed_over = subst Distinct (sym (nodes_replaced gives w.formatting)) (replaced_distinct gives (nodes_of w.formatting) [] apart ready.lists.agrees.once)
    where
      no_clone : (x : ℕ) → (IsIn x (nodes_of w.formatting) ⊎ IsIn x []) → ¬ (IsIn x made.clones)
      no_clone x (inl i) h = fresh.unlisted x (inr h) i
      no_clone x (inr i) h = i

      apart : GiveApart gives (nodes_of w.formatting) []
      apart n m z i j e v = replaced_by_apart k.between (to_clone w.formatting k.between) made.clones n m z (λ x h. fresh.distinct x (inr h)) (no_clone n i) (no_clone m j) e v

  -- and the formatting element's entry is removed
  pub entry_gone : IsIn f.node (nodes_of w.formatting) → ¬ (IsIn f.node (nodes_of (adopt choices f k w).formatting))
  entry_gone listed =
      gone_inserted f.node (first_or f.node made.clones) own f.tag (replaced gives w.formatting)
      (λ e. fresh.unlisted own (inl refl) (subst (λ z. IsIn z (nodes_of w.formatting)) (sym e) listed))
      (without_entry_gone f.node (replaced gives w.formatting) handed_over)

  -- what is open after the round, and isn't new, was open, and isn't the formatting element
  halves : w.stack ≡ (k.newer ++ k.block ∷ k.between) ++ f.node ∷ older_than f.node w.stack
  halves = cut_stack choices w ready may ∙ sym (append_assoc k.newer (k.block ∷ k.between) (f.node ∷ older_than f.node w.stack))

  in_halves : (n : ℕ) → IsNode w.forest n → IsIn n (adopt choices f k w).stack → IsIn n ((k.newer ++ k.block ∷ k.between) ++ older_than f.node w.stack)
  in_halves n there i = first (in_split n k.newer (own ∷ k.block ∷ (made.clones ++ older_than f.node w.stack)) i)
    where
      newer : List ℕ
      newer = k.newer ++ k.block ∷ k.between

      last : IsIn n made.clones ⊎ IsIn n (older_than f.node w.stack) → IsIn n (newer ++ older_than f.node w.stack)
      last (inl c) = absurd (clone_is_new n c there)
      last (inr o) = in_right n newer (older_than f.node w.stack) o

      first : IsIn n k.newer ⊎ IsIn n (own ∷ k.block ∷ (made.clones ++ older_than f.node w.stack)) → IsIn n (newer ++ older_than f.node w.stack)
      first (inl j) = in_left n newer (older_than f.node w.stack) (in_left n k.newer (k.block ∷ k.between) j)
      first (inr (inl e)) = absurd (own_is_new (subst (IsNode w.forest) e there))
      first (inr (inr (inl e))) = in_left n newer (older_than f.node w.stack) (in_right n k.newer (k.block ∷ k.between) (inl e))
      first (inr (inr (inr j))) = last (in_split n made.clones (older_than f.node w.stack) j)

  pub still_closed : (n : ℕ) → IsNode w.forest n → ¬ (IsIn n w.stack) → ¬ (IsIn n (adopt choices f k w).stack)
  still_closed n there out = λ i.
      out (subst (IsIn n) (sym halves) (in_one_more n f.node (k.newer ++ k.block ∷ k.between) (older_than f.node w.stack) (in_halves n there i)))

  pub element_closed : IsNode w.forest f.node → ¬ (IsIn f.node (adopt choices f k w).stack)
  element_closed there = λ i.
      not_beside (k.newer ++ k.block ∷ k.between) (older_than f.node w.stack) f.node (subst Distinct halves (ordered_distinct (parent_of w.forest) w.stack ready.sound.stands.ordered)) (in_halves f.node there i)

-- A round.

-- "any other end tag" leaves the list as it is
pub formatting-close_named : (choices : SinkChoices) (name : List ℕ) (w : World) → (close_named choices name w).formatting ≡ w.formatting
unfolding close_named generate_implied_end_except pop_until_named pop
formatting-close_named choices name w = at (comes_before_special name (names_of w))
  where
    closed : World
    closed = generate_implied_end_except choices name w

    at : (b : Bool) → (cond b (pop_until_named name closed) w).formatting ≡ w.formatting
    at true = while_holds (λ (v : World). v.formatting ≡ w.formatting) choices (is_implied_but name) (λ v e. e) (names_of w) w refl
    at false = refl

-- and opens no element
in_but_first : (n : ℕ) (s : List ℕ) → IsIn n (but_first s) → IsIn n s
in_but_first n [] i = i
in_but_first n (m ∷ s) i = inr i

in_cut_through : (n : ℕ) (is : QualName → Bool) (ns : List QualName) (s : List ℕ) → IsIn n (cut_through is ns s) → IsIn n s
in_cut_through n is [] s i = i
in_cut_through n is (m ∷ ns) s i = in_but_first n s (at (is m) i (in_cut_through n is ns (but_first s)))
  where
    at : (b : Bool) → IsIn n (cond b (but_first s) (cut_through is ns (but_first s))) → (IsIn n (cut_through is ns (but_first s)) → IsIn n (but_first s)) → IsIn n (but_first s)
    at true j go = j
    at false j go = go j

in_close_named : (choices : SinkChoices) (name : List ℕ) (w : World) (n : ℕ) → IsIn n (close_named choices name w).stack → IsIn n w.stack
unfolding close_named generate_implied_end_except pop_until_named pop
in_close_named choices name w n = at (comes_before_special name (names_of w))
  where
    closed : World
    closed = generate_implied_end_except choices name w

    at : (b : Bool) → IsIn n (cond b (pop_until_named name closed) w).stack → IsIn n w.stack
    at true i =
        while_holds (λ (v : World). IsIn n v.stack → IsIn n w.stack) choices (is_implied_but name) (λ v go j. go (in_but_first n v.stack j)) (names_of w) w (λ j. j)
        (in_cut_through n (is_html_named name) (names_of closed) closed.stack i)
    at false i = i

-- what is older than an element was open, and isn't it
in_older : (n f : ℕ) (s : List ℕ) → IsIn n (older_than f s) → IsIn n s
in_older n f [] i = i
in_older n f (m ∷ s) i = at (m == f) i (in_older n f s)
  where
    at : (b : Bool) → IsIn n (cond b s (older_than f s)) → (IsIn n (older_than f s) → IsIn n s) → IsIn n (m ∷ s)
    at true j go = inr j
    at false j go = inr (go j)

not_older : (f : ℕ) (s : List ℕ) → Distinct s → ¬ (IsIn f (older_than f s))
not_older f [] d = λ i. i
not_older f (m ∷ s) d = at (m == f) refl (not_older f s (λ x h. d x (inr h)))
  where
    at : (b : Bool) → (m == f) ≡ b → ¬ (IsIn f (older_than f s)) → ¬ (IsIn f (cond b s (older_than f s)))
    at true e none = λ i. d f (inl (sym (eqb-true m f e), i))
    at false e none = none

-- what a round may come to
pub round_comes_to : (P : World → Type 0) (again : World → World) (choices : SinkChoices) (name : List ℕ) (f : FormattingElement) (w : World) → newest_named name w.formatting ≡ Some f
    → (is_in f.node w.stack ≡ false → P (record w { formatting = without_entry f.node w.formatting })) → P w → P (record w { stack = older_than f.node w.stack; formatting = without_entry f.node w.formatting })
    → ((k : FurthestBlock) → MayAdopt name f k w → P (again (adopt choices f k w))) → P (adopt_by again choices name (Some f) w)
round_comes_to P again choices name f w newest closed same popped adopted = by_place (is_in f.node w.stack) refl scope_ends refl
  where
    block : Option FurthestBlock
    block = furthest_block (λ n. is_special (name_in w.forest n)) (newer_than f.node w.stack)

    scope_ends : Bool
    scope_ends = list_any (λ n. is_default_scope (name_in w.forest n)) (newer_than f.node w.stack)

    by_block : IsIn f.node w.stack → scope_ends ≡ false → (o : Option FurthestBlock) → block ≡ o → P (adopt_at again choices f o w)
    by_block i scope None e = popped
    by_block i scope (Some k) e = adopted k (record { newest = newest; is_open = i; in_scope = scope; block = e })

    by_place : (b : Bool) → is_in f.node w.stack ≡ b → (c : Bool) → scope_ends ≡ c → P (cond (not b) (record w { formatting = without_entry f.node w.formatting }) (cond c w (adopt_at again choices f block w)))
    by_place false e c v = closed e
    by_place true e true v = same
    by_place true e false v = by_block (is_in_true f.node w.stack e) v block refl

-- an element that was there and isn't listed isn't listed after a round, if rounds that follow don't list it
round_still_gone : (again : World → World) (n : ℕ) → ((v : World) → HasHtmlRoot v → IsNode v.forest n → ¬ (IsIn n (nodes_of v.formatting)) → ¬ (IsIn n (nodes_of (again v).formatting)))
    → (choices : SinkChoices) (name : List ℕ) (w : World) → HasHtmlRoot w → IsNode w.forest n → ¬ (IsIn n (nodes_of w.formatting))
    → ¬ (IsIn n (nodes_of (adopt_by again choices name (newest_named name w.formatting) w).formatting))
round_still_gone again n go choices name w ready there out = at (newest_named name w.formatting) refl
  where
    less : (m : ℕ) → ¬ (IsIn n (nodes_of (without_entry m w.formatting)))
    less m = none_apart n (without_entry m w.formatting) (each_without_entry (λ x t. x ≢ n) m w.formatting (each_apart n w.formatting out))

    at : (o : Option FormattingElement) → newest_named name w.formatting ≡ o → ¬ (IsIn n (nodes_of (adopt_by again choices name o w).formatting))
    at None e = subst (λ l. ¬ (IsIn n (nodes_of l))) (sym (formatting-close_named choices name w)) out
    at (Some f) e =
        round_comes_to (λ (v : World). ¬ (IsIn n (nodes_of v.formatting))) again choices name f w e (λ h. less f.node) out (less f.node)
        (λ k may. go (adopt choices f k w) (adopt_ready choices w ready may)
        (there_alike w.forest (adopt choices f k w).forest n (round_kinds choices w ready may n there) there) (still_gone choices w ready may n there out))

pub rounds_still_gone : (count : ℕ) (choices : SinkChoices) (name : List ℕ) (n : ℕ) (w : World) → HasHtmlRoot w → IsNode w.forest n → ¬ (IsIn n (nodes_of w.formatting))
    → ¬ (IsIn n (nodes_of (adopt_within count choices name w).formatting))
rounds_still_gone zero choices name n w ready there out = out
rounds_still_gone (suc count) choices name n w ready there out =
    round_still_gone (adopt_within count choices name) n (λ v r t o. rounds_still_gone count choices name n v r t o) choices name w ready there out

-- as above, for an element that isn't open
round_still_closed : (again : World → World) (n : ℕ) → ((v : World) → HasHtmlRoot v → IsNode v.forest n → ¬ (IsIn n v.stack) → ¬ (IsIn n (again v).stack))
    → (choices : SinkChoices) (name : List ℕ) (w : World) → HasHtmlRoot w → IsNode w.forest n → ¬ (IsIn n w.stack) → ¬ (IsIn n (adopt_by again choices name (newest_named name w.formatting) w).stack)
round_still_closed again n go choices name w ready there out = at (newest_named name w.formatting) refl
  where
    at : (o : Option FormattingElement) → newest_named name w.formatting ≡ o → ¬ (IsIn n (adopt_by again choices name o w).stack)
    at None e = λ i. out (in_close_named choices name w n i)
    at (Some f) e =
        round_comes_to (λ (v : World). ¬ (IsIn n v.stack)) again choices name f w e (λ h. out) out (λ i. out (in_older n f.node w.stack i))
        (λ k may. go (adopt choices f k w) (adopt_ready choices w ready may)
        (there_alike w.forest (adopt choices f k w).forest n (round_kinds choices w ready may n there) there) (still_closed choices w ready may n there out))

pub rounds_still_closed : (count : ℕ) (choices : SinkChoices) (name : List ℕ) (n : ℕ) (w : World) → HasHtmlRoot w → IsNode w.forest n → ¬ (IsIn n w.stack) → ¬ (IsIn n (adopt_within count choices name w).stack)
rounds_still_closed zero choices name n w ready there out = out
rounds_still_closed (suc count) choices name n w ready there out =
    round_still_closed (adopt_within count choices name) n (λ v r t o. rounds_still_closed count choices name n v r t o) choices name w ready there out

-- The agency.

-- a list is the same, or an element isn't listed
abbrev pub IsKeptOrGone : ℕ → List Entry → List Entry → Type 0
IsKeptOrGone n old new = (new ≡ old) ⊎ (¬ (IsIn n (nodes_of new)))

pub newest_is_listed : (name : List ℕ) (f : FormattingElement) (l : List Entry) → newest_named name l ≡ Some f → IsIn f.node (nodes_of l)
newest_is_listed name f l newest =
    let k = newest_named_at name l f newest in
    subst (IsIn f.node) (sym (ap nodes_of k.cut ∙ nodes_of-append k.newer (ElementEntry f.node f.tag ∷ k.older))) (in_right f.node (nodes_of k.newer) (f.node ∷ nodes_of k.older) (inl refl))

pub rounds_kept_or_gone : (count : ℕ) (choices : SinkChoices) (name : List ℕ) (f : FormattingElement) (w : World) → HasHtmlRoot w → newest_named name w.formatting ≡ Some f
    → IsKeptOrGone f.node w.formatting (adopt_within count choices name w).formatting
rounds_kept_or_gone zero choices name f w ready newest = inl refl
rounds_kept_or_gone (suc count) choices name f w ready newest =
    subst (λ o. IsKeptOrGone f.node w.formatting (adopt_by (adopt_within count choices name) choices name o w).formatting) (sym newest)
    (round_comes_to (λ (v : World). IsKeptOrGone f.node w.formatting v.formatting) (adopt_within count choices name) choices name f w newest (λ h. inr gone) (inl refl) (inr gone)
    (λ k may. inr (rounds_still_gone count choices name f.node (adopt choices f k w) (adopt_ready choices w ready may)
    (there_alike w.forest (adopt choices f k w).forest f.node (round_kinds choices w ready may f.node there) there)
    (entry_gone choices w ready may (newest_is_listed name f w.formatting newest)))))
  where
    gone : ¬ (IsIn f.node (nodes_of (without_entry f.node w.formatting)))
    gone = without_entry_gone f.node w.formatting ready.lists.agrees.once

    there : IsNode w.forest f.node
    there = node_of_kind w.forest f.node (ElementNode (html_name f.tag.name)) (newest_of_tag name w newest ready.sound)

pub agency_kept_or_gone : (choices : SinkChoices) (name : List ℕ) (f : FormattingElement) (w : World) → HasHtmlRoot w → newest_named name w.formatting ≡ Some f
    → IsKeptOrGone f.node w.formatting (adoption_agency choices name w).formatting
unfolding adoption_agency pop
agency_kept_or_gone choices name f w ready newest = at (is_current_unlisted name w)
  where
    at : (b : Bool) → IsKeptOrGone f.node w.formatting (cond b (pop choices w) (adopt_within 8 choices name w)).formatting
    at true = inl refl
    at false = rounds_kept_or_gone 8 choices name f w ready newest

-- the formatting element is open only if it is listed
pub rounds_open_listed : (count : ℕ) (choices : SinkChoices) (name : List ℕ) (f : FormattingElement) (w : World) → HasHtmlRoot w → newest_named name w.formatting ≡ Some f
    → IsOpenOnlyListed f.node (adopt_within count choices name w)
rounds_open_listed zero choices name f w ready newest = λ i. newest_is_listed name f w.formatting newest
rounds_open_listed (suc count) choices name f w ready newest =
    subst (λ o. IsOpenOnlyListed f.node (adopt_by (adopt_within count choices name) choices name o w)) (sym newest)
    (round_comes_to (IsOpenOnlyListed f.node) (adopt_within count choices name) choices name f w newest
    (λ h i. absurd (let clash : true ≡ false = sym (is_in_telling f.node w.stack i) ∙ h in cc))
    (λ i. newest_is_listed name f w.formatting newest)
    (λ i. absurd (not_older f.node w.stack (ordered_distinct (parent_of w.forest) w.stack ready.sound.stands.ordered) i))
    (λ k may i. absurd (rounds_still_closed count choices name f.node (adopt choices f k w) (adopt_ready choices w ready may)
    (there_alike w.forest (adopt choices f k w).forest f.node (round_kinds choices w ready may f.node there) there)
    (element_closed choices w ready may there) i)))
  where
    there : IsNode w.forest f.node
    there = node_of_kind w.forest f.node (ElementNode (html_name f.tag.name)) (newest_of_tag name w newest ready.sound)

pub agency_open_listed : (choices : SinkChoices) (name : List ℕ) (f : FormattingElement) (w : World) → HasHtmlRoot w → newest_named name w.formatting ≡ Some f → IsOpenOnlyListed f.node (adoption_agency choices name w)
unfolding adoption_agency pop
agency_open_listed choices name f w ready newest = at (is_current_unlisted name w)
  where
    at : (b : Bool) → IsOpenOnlyListed f.node (cond b (pop choices w) (adopt_within 8 choices name w))
    at true = λ i. newest_is_listed name f w.formatting newest
    at false = rounds_open_listed 8 choices name f w ready newest

pub agency_leaves_open : (choices : SinkChoices) (name : List ℕ) (at n : ℕ) (w v : World) → HasHtmlRoot w → (l : IsListedAt name at w) → v ≡ adoption_agency choices name w → n ≡ l.element.node → IsOpenOnlyListed n v
agency_leaves_open choices name at n w v ready l after same =
    subst (λ m. IsOpenOnlyListed m v) (sym same) (subst (IsOpenOnlyListed l.element.node) (sym after) (agency_open_listed choices name l.element w ready l.newest))

-- so the formatting element is listed where it was, or nowhere
pub agency_leaves_listed : (choices : SinkChoices) (name : List ℕ) (at n : ℕ) (w v : World) → HasHtmlRoot w → (l : IsListedAt name at w) → v ≡ adoption_agency choices name w → n ≡ l.element.node → IsListedOnlyAt n at v
agency_leaves_listed choices name at n w v ready l after same =
    subst (λ m. IsListedOnlyAt m at v) (sym same) (subst (IsListedOnlyAt l.element.node at) (sym after) (elim (agency_kept_or_gone choices name l.element w ready l.newest) [
      | inl kept ↦ inl (entry_in_same (adoption_agency choices name w) kept (found_entry w (found_at name at w ready l)))
      | inr gone ↦ inr gone
    ]))
  where
    entry_in_same : (u : World) → u.formatting ≡ w.formatting → IsEntryAt l.element.node at w → IsEntryAt l.element.node at u
    entry_in_same u e k = record { tag = k.tag; newer = k.newer; older = k.older; cut = e ∙ k.cut; first = k.first; here = k.here }

-- An entry at a place.

-- there is none past the list
pub no_entry_past : (n i : ℕ) (l : List Entry) → length l ≤ i → is_entry_of n (entry_at i l) ≡ false
no_entry_past n i [] h = refl
no_entry_past n i (e ∷ l) h =
    ap (λ b. is_entry_of n (cond b e (entry_at i l))) (ne_eqb (length l) i (λ k. omega (arith, h, k))) ∙ no_entry_past n i l (omega (arith, h))

-- where it is that of an element, this one is listed
pub entry_is_listed : (n i : ℕ) (l : List Entry) → is_entry_of n (entry_at i l) ≡ true → IsIn n (nodes_of l)
entry_is_listed n i [] h = absurd (cc)
entry_is_listed n i (MarkerEntry ∷ l) h = at (length l == i) h (entry_is_listed n i l)
  where
    at : (b : Bool) → is_entry_of n (cond b MarkerEntry (entry_at i l)) ≡ true → (is_entry_of n (entry_at i l) ≡ true → IsIn n (nodes_of l)) → IsIn n (nodes_of l)
    at true e go = absurd (cc)
    at false e go = go e
entry_is_listed n i (ElementEntry m t ∷ l) h = at (length l == i) h (entry_is_listed n i l)
  where
    at : (b : Bool) → is_entry_of n (cond b (ElementEntry m t) (entry_at i l)) ≡ true → (is_entry_of n (entry_at i l) ≡ true → IsIn n (nodes_of l)) → IsIn n (m ∷ nodes_of l)
    at true e go = inl (eqb-true n m e)
    at false e go = inr (go e)

pub entry_is_inside : (n i : ℕ) (l : List Entry) → is_entry_of n (entry_at i l) ≡ true → i < length l
entry_is_inside n i [] h = absurd (cc)
entry_is_inside n i (e ∷ l) h = at (length l == i) refl h (entry_is_inside n i l)
  where
    at : (b : Bool) → (length l == i) ≡ b → is_entry_of n (cond b e (entry_at i l)) ≡ true → (is_entry_of n (entry_at i l) ≡ true → i < length l) → i < length (e ∷ l)
    at true same k go = let here = eqb-true (length l) i same in omega (arith, here)
    at false same k go = let inside = go k in omega (arith, inside)

-- if it is listed only there, the entry there is that of the element
pub entry_tells : (n i : ℕ) (w : World) → IsEntryAt n i w → is_entry_of n (entry_at i w.formatting) ≡ true
entry_tells n i w k =
    ap (λ l. is_entry_of n (entry_at i l)) k.cut ∙ ap (is_entry_of n) (entry_at_cut i k.newer (ElementEntry n k.tag) k.older (sym k.here)) ∙ eq-eqb n n refl

pub unlisted_same : (n i : ℕ) (w : World) → IsListedOnlyAt n i w → is_entry_of n (entry_at i w.formatting) ≡ false → w ≡ record w { formatting = without_entry n w.formatting }
unlisted_same n i w (inl k) h = absurd (let clash : true ≡ false = sym (entry_tells n i w k) ∙ h in cc)
unlisted_same n i w (inr out) h = ap (λ l. record w { formatting = l }) (sym (without_entry_none n w.formatting out))

-- so an element that isn't listed there is gone from list and stack
pub all_gone : (choices : SinkChoices) (n i : ℕ) (w : World) → IsListedOnlyAt n i w → IsOpenOnlyListed n w → is_entry_of n (entry_at i w.formatting) ≡ false → w ≡ unlist_and_remove choices n w
unfolding remove_from_stack
all_gone choices n i w (inl k) listed h = absurd (let clash : true ≡ false = sym (entry_tells n i w k) ∙ h in cc)
all_gone choices n i w (inr out) listed h =
    let less : World = record w { formatting = without_entry n w.formatting } in
    unlisted_same n i w (inr out) h
    ∙ sym (ap (λ b. cond b (record less { forest = mark (choices.marks_after_pop less.forest n) less.forest; stack = without_node n less.stack }) less) (is_in_false n w.stack (λ j. out (listed j))))

pub listed_there : (n i : ℕ) (w : World) → IsListedOnlyAt n i w → is_entry_of n (entry_at i w.formatting) ≡ true → IsEntryAt n i w
listed_there n i w (inl k) h = k
listed_there n i w (inr out) h = absurd (out (entry_is_listed n i w.formatting h))
