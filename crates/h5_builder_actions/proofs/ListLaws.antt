-- The list as it is stored, and as contracts see it.
use Rattle.std.proofs.Common.{◌≡◌, ◌+◌, ◌-◌, ◌<◌, ◌≤◌, ◌==◌, ℕ, suc, Bool, true, false, cond, get_or, set, take, drop, List, [], ◌∷◌, ◌++◌, length, length-append, map, reverse, refl, ap, sym, subst, ◌∙◌, arith}
use Rattle.std.specs.List.{remove}
use Rattle.std.proofs.lemmas.Bool.{eq-eqb, ne_eqb}
use Rattle.std.proofs.lemmas.List.{drop-set-lt, length-map, length-reverse, length-take-le, map-append, reverse-append, take-append-drop, take_more, take_more_set}
use Rattle.h5_token.specs.TokenText.{TagText}
use Rattle.h5_tables.specs.declared.entry.FormatEntry.{FormatEntry}
use Rattle.h5_tables.specs.declared.entry.FormatEntry.TheVariants.{Element, Marker}
use Rattle.h5_builder_spec.specs.formatting.FormattingList.{EachEntry, ElementEntry, Entry, MarkerEntry, count_alike, push_formatting, without_earliest}
use Rattle.h5_builder_spec.proofs.entries.PushLaws.{push_full}
use Rattle.h5_builder_state.specs.Listed.{entries_of, entry_of, with_handle, without_place}
use Rattle.h5_builder_state.proofs.StackLaws.{seen_pushed}
use Rattle.h5_builder_actions.specs.EntryPlaces.{entry_at, entry_for, with_node_at}

-- a place, where the list is cut there
not_there : (i : ℕ) (p : List Entry) (e : Entry) (r : List Entry) → length r ≡ i → (length (p ++ e ∷ r) == i) ≡ false
not_there i p e r h = ne_eqb (length (p ++ e ∷ r)) i (λ k. omega (arith, h, k, length-append p (e ∷ r)))

-- the entry there, the list without it, and the list with another element there
pub entry_at_cut : (i : ℕ) (p : List Entry) (e : Entry) (r : List Entry) → length r ≡ i → entry_at i (p ++ e ∷ r) ≡ e
entry_at_cut i [] e r h = ap (λ b. cond b e (entry_at i r)) (eq-eqb (length r) i h)
entry_at_cut i (a ∷ p) e r h = ap (λ b. cond b a (entry_at i (p ++ e ∷ r))) (not_there i p e r h) ∙ entry_at_cut i p e r h

pub without_place_cut : (i : ℕ) (p : List Entry) (e : Entry) (r : List Entry) → length r ≡ i → without_place i (p ++ e ∷ r) ≡ p ++ r
without_place_cut i [] e r h = ap (λ b. cond b r (e ∷ without_place i r)) (eq-eqb (length r) i h)
without_place_cut i (a ∷ p) e r h =
    ap (λ b. cond b (p ++ e ∷ r) (a ∷ without_place i (p ++ e ∷ r))) (not_there i p e r h) ∙ ap (λ l. a ∷ l) (without_place_cut i p e r h)

pub with_node_at_cut : (i n : ℕ) (p : List Entry) (e : Entry) (r : List Entry) → length r ≡ i → with_node_at i n (p ++ e ∷ r) ≡ p ++ entry_for n e ∷ r
with_node_at_cut i n [] e r h = ap (λ b. cond b (entry_for n e ∷ r) (e ∷ with_node_at i n r)) (eq-eqb (length r) i h)
with_node_at_cut i n (a ∷ p) e r h =
    ap (λ b. cond b (entry_for n a ∷ p ++ e ∷ r) (a ∷ with_node_at i n (p ++ e ∷ r))) (not_there i p e r h) ∙ ap (λ l. a ∷ l) (with_node_at_cut i n p e r h)

-- what is left where one is taken out
pub left_parts : {X : Type 0} (xs : List X) (i : ℕ) → remove xs i ≡ take i xs ++ drop (i + 1) xs
left_parts xs i = let e : suc i ≡ i + 1 = omega arith in ap (λ n. take i xs ++ drop n xs) e

module _ {H : Type 0} (node : H → ℕ) where
  -- as many entries as are kept
  pub length_entries : (xs : List (FormatEntry H)) → length (entries_of node xs) ≡ length xs
  length_entries xs = length-reverse (map (entry_of node) xs) ∙ length-map xs (entry_of node)

  -- the last one is the newest
  pub entries_pushed : (xs ys : List (FormatEntry H)) (x : FormatEntry H) → ys ≡ xs ++ x ∷ [] → entries_of node ys ≡ entry_of node x ∷ entries_of node xs
  entries_pushed xs ys x e = seen_pushed (entry_of node) xs ys x e

  -- one entry more is older
  pub entries_step : (xs : List (FormatEntry H)) (i : ℕ) (x : FormatEntry H) → i < length xs → x ≡ get_or xs i x → entries_of node (take (i + 1) xs) ≡ entry_of node x ∷ entries_of node (take i xs)
  entries_step xs i x h e = entries_pushed (take i xs) (take (i + 1) xs) x (take_more xs i x h ∙ ap (λ z. take i xs ++ z ∷ []) (sym e))

  -- as above, from the place above
  pub entries_below : (xs : List (FormatEntry H)) (i : ℕ) (x : FormatEntry H) → 0 < i → i ≤ length xs → x ≡ get_or xs (i - 1) x → entries_of node (take i xs) ≡ entry_of node x ∷ entries_of node (take (i - 1) xs)
  entries_below xs i x some h e =
      let back : i ≡ i - 1 + 1 = omega (arith, some) in
      ap (λ j. entries_of node (take j xs)) back ∙ entries_step xs (i - 1) x (omega (arith, some, h)) e

  entries_joined : (xs ys : List (FormatEntry H)) → entries_of node (xs ++ ys) ≡ entries_of node ys ++ entries_of node xs
  entries_joined xs ys = ap reverse (map-append (entry_of node) xs ys) ∙ reverse-append (map (entry_of node) xs) (map (entry_of node) ys)

  -- an entry, the newer and the older ones
  pub entries_cut : (xs : List (FormatEntry H)) (i : ℕ) (x : FormatEntry H) → i < length xs → x ≡ get_or xs i x
      → entries_of node xs ≡ entries_of node (drop (i + 1) xs) ++ entry_of node x ∷ entries_of node (take i xs)
  entries_cut xs i x h e =
      ap (entries_of node) (sym (take-append-drop (i + 1) xs))
      ∙ entries_joined (take (i + 1) xs) (drop (i + 1) xs)
      ∙ ap (λ l. entries_of node (drop (i + 1) xs) ++ l) (entries_step xs i x h e)

  -- as many are older as the place says
  pub older_many : (xs : List (FormatEntry H)) (i : ℕ) → i < length xs → length (entries_of node (take i xs)) ≡ i
  older_many xs i h = length_entries (take i xs) ∙ length-take-le i xs (omega (arith, h))

  -- the entry at a place
  pub entry_there : (xs : List (FormatEntry H)) (i : ℕ) (x : FormatEntry H) → i < length xs → x ≡ get_or xs i x → entry_at i (entries_of node xs) ≡ entry_of node x
  entry_there xs i x h e =
      ap (entry_at i) (entries_cut xs i x h e)
      ∙ entry_at_cut i (entries_of node (drop (i + 1) xs)) (entry_of node x) (entries_of node (take i xs)) (older_many xs i h)

  -- the same where it is known what it is
  pub entry_known : (xs : List (FormatEntry H)) (i : ℕ) (x y : FormatEntry H) → i < length (entries_of node xs) → x ≡ get_or xs i x → x ≡ y → entry_at i (entries_of node xs) ≡ entry_of node y
  entry_known xs i x y h e is = entry_there xs i x (omega (arith, h, length_entries xs)) e ∙ ap (entry_of node) is

  -- it is removed
  pub entry_removed : (xs ys : List (FormatEntry H)) (i : ℕ) (x : FormatEntry H) → i < length xs → x ≡ get_or xs i x → ys ≡ take i xs ++ drop (i + 1) xs → entries_of node ys ≡ without_place i (entries_of node xs)
  entry_removed xs ys i x h e d =
      ap (entries_of node) d
      ∙ entries_joined (take i xs) (drop (i + 1) xs)
      ∙ sym (ap (without_place i) (entries_cut xs i x h e) ∙ without_place_cut i (entries_of node (drop (i + 1) xs)) (entry_of node x) (entries_of node (take i xs)) (older_many xs i h))

  set_cut : (xs : List (FormatEntry H)) (i : ℕ) (y : FormatEntry H) → i < length xs → entries_of node (set xs i y) ≡ entries_of node (drop (i + 1) xs) ++ entry_of node y ∷ entries_of node (take i xs)
  set_cut xs i y h =
      ap (entries_of node) (sym (take-append-drop (i + 1) (set xs i y)))
      ∙ entries_joined (take (i + 1) (set xs i y)) (drop (i + 1) (set xs i y))
      ∙ ap (λ l. entries_of node l ++ entries_of node (take (i + 1) (set xs i y))) (drop-set-lt (i + 1) xs i y (omega arith))
      ∙ ap (λ l. entries_of node (drop (i + 1) xs) ++ l) (entries_pushed (take i xs) (take (i + 1) (set xs i y)) y (take_more_set xs i y h))

  -- an entry of another element
  pub entry_handed : (handle : H) (x : FormatEntry H) → entry_of node (with_handle handle x) ≡ entry_for (node handle) (entry_of node x)
  entry_handed handle (Element other tag) = refl
  entry_handed handle Marker = refl

  -- its element gives way to another
  pub entry_set : (xs ys : List (FormatEntry H)) (i n : ℕ) (x y : FormatEntry H) → i < length xs → x ≡ get_or xs i x → ys ≡ set xs i y → entry_of node y ≡ entry_for n (entry_of node x)
      → entries_of node ys ≡ with_node_at i n (entries_of node xs)
  entry_set xs ys i n x y h e s same =
      ap (entries_of node) s
      ∙ set_cut xs i y h
      ∙ ap (λ z. entries_of node (drop (i + 1) xs) ++ z ∷ entries_of node (take i xs)) same
      ∙ sym (ap (with_node_at i n) (entries_cut xs i x h e) ∙ with_node_at_cut i n (entries_of node (drop (i + 1) xs)) (entry_of node x) (entries_of node (take i xs)) (older_many xs i h))

  -- an entry gives way to one that is seen alike
  pub entry_alike : (xs ys : List (FormatEntry H)) (i : ℕ) (x y : FormatEntry H) → i < length xs → x ≡ get_or xs i x → ys ≡ set xs i y → entry_of node y ≡ entry_of node x → entries_of node ys ≡ entries_of node xs
  entry_alike xs ys i x y h e s same =
      ap (entries_of node) s
      ∙ set_cut xs i y h
      ∙ ap (λ z. entries_of node (drop (i + 1) xs) ++ z ∷ entries_of node (take i xs)) same
      ∙ sym (entries_cut xs i x h e)

-- something holds for each entry, also of one whose element gave way
pub each_with_node : (P : ℕ → TagText → Type 0) (i n : ℕ) (l : List Entry) → ((m : ℕ) (t : TagText) → entry_at i l ≡ ElementEntry m t → P n t) → EachEntry P l → EachEntry P (with_node_at i n l)
each_with_node P i n [] new h = h
each_with_node P i n (MarkerEntry ∷ l) new h = at (length l == i) refl (each_with_node P i n l)
  where
    at : (b : Bool) → (length l == i) ≡ b → (((m : ℕ) (t : TagText) → entry_at i l ≡ ElementEntry m t → P n t) → EachEntry P l → EachEntry P (with_node_at i n l))
        → EachEntry P (cond b (MarkerEntry ∷ l) (MarkerEntry ∷ with_node_at i n l))
    at true e go = h
    at false e go = go (λ m t k. new m t (ap (λ b. cond b MarkerEntry (entry_at i l)) e ∙ k)) h
each_with_node P i n (ElementEntry m t ∷ l) new h = at (length l == i) refl (each_with_node P i n l)
  where
    at : (b : Bool) → (length l == i) ≡ b → (((m : ℕ) (t : TagText) → entry_at i l ≡ ElementEntry m t → P n t) → EachEntry P l → EachEntry P (with_node_at i n l))
        → EachEntry P (cond b (ElementEntry n t ∷ l) (ElementEntry m t ∷ with_node_at i n l))
    at true e go = (new m t (ap (λ b. cond b (ElementEntry m t) (entry_at i l)) e), h.1)
    at false e go = (h.0, go (λ k u d. new k u (ap (λ b. cond b (ElementEntry m t) (entry_at i l)) e ∙ d)) h.1)

-- it holds for the entry at a place
pub each_entry_at : (P : ℕ → TagText → Type 0) (i : ℕ) (l : List Entry) (m : ℕ) (t : TagText) → EachEntry P l → entry_at i l ≡ ElementEntry m t → P m t
each_entry_at P i [] m t h e = absurd (cc)
each_entry_at P i (MarkerEntry ∷ l) m t h e = at (length l == i) e (each_entry_at P i l m t h)
  where
    at : (b : Bool) → cond b MarkerEntry (entry_at i l) ≡ ElementEntry m t → (entry_at i l ≡ ElementEntry m t → P m t) → P m t
    at true k go = absurd (cc)
    at false k go = go k
each_entry_at P i (ElementEntry n u ∷ l) m t h e = at (length l == i) e (each_entry_at P i l m t h.1)
  where
    at : (b : Bool) → cond b (ElementEntry n u) (entry_at i l) ≡ ElementEntry m t → (entry_at i l ≡ ElementEntry m t → P m t) → P m t
    at true k go = let node : n ≡ m = cc in let tag : u ≡ t = cc in subst (λ x. P x t) node (subst (P n) tag h.0)
    at false k go = go k

-- a push where three are alike, whose earliest is removed
pub pushed_full : (n : ℕ) (t : TagText) (i : ℕ) (l : List Entry) → i < length l → 3 ≤ count_alike t l → without_place i l ≡ without_earliest t l → without_place i (ElementEntry n t ∷ l) ≡ push_formatting n t l
pushed_full n t i l h full e =
    ap (λ b. cond b l (ElementEntry n t ∷ without_place i l)) (ne_eqb (length l) i (λ s. omega (arith, h, s)))
    ∙ ap (λ r. ElementEntry n t ∷ r) e
    ∙ sym (push_full n t l full)
