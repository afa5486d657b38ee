-- A walk from the newest entry down, which skips entries of other numbers.
use Rattle.std.proofs.Common.{◌≡◌, ◌≢◌, ◌+◌, ◌-◌, ◌<◌, ◌≤◌, ℕ, zero, suc, Bool, true, false, cond, max, List, [], ◌∷◌, ◌++◌, drop, get_or, length, map, reverse, take, Some, None, refl, ap, sym, subst, ◌∙◌, add-zero, arith}
use Rattle.std.proofs.lemmas.List.{get_or-take, get_or_default, length-map, length-reverse, length-take-le, map-append, reverse-append, reverse-reverse, take-append-drop, take_all, take_more}
use Rattle.std.proofs.lemmas.Slice.Eq.{bytes_eq-Decides}
use Rattle.h5_names.specs.AttributeText.{is_same_text}
use Rattle.h5_token.specs.TokenText.{tag_text}
use Rattle.h5_tables.specs.declared.entry.FormatEntry.{FormatEntry}
use Rattle.h5_tables.specs.declared.entry.FormatEntry.TheVariants.{Element, Marker}
use Rattle.h5_builder_spec.specs.formatting.Adoption.{FormattingElement, newest_named}
use Rattle.h5_builder_spec.specs.formatting.FormattingList.{ElementEntry, Entry, MarkerEntry}
use Rattle.h5_builder_state.specs.Numbered.{Numbered, newest_of, numbers}
use Rattle.h5_builder_state.proofs.NumberedNewestLaws.{newest_at, none_above}
use Rattle.h5_builder_state.specs.Listed.{IsNewestNamedAt, entries_of, entry_of, is_named}
use Rattle.h5_builder_state.specs.ListNumbers.{AreNumbered, IsAfterMarkers, entry_number, name_number}
use Rattle.h5_builder_state.proofs.NumberedLaws.{number_is}

-- numbers above a place are others, if the newest of a number stands below
pub above_newest : (ns : List ℕ) (n count k : ℕ) → newest_of n (reverse (take count ns)) ≤ k → k < count → count ≤ length ns → get_or ns k 0 ≢ n
above_newest ns n count k low high within e =
    none_above n k (reverse (take count ns)) low (omega (arith, length-reverse (take count ns), length-take-le count ns within, high))
    (ap (λ s. get_or s k 0) (reverse-reverse (take count ns)) ∙ get_or-take count ns k 0 high ∙ e)

-- the number that stands where the newest of it is
pub at_newest : (ns : List ℕ) (n count k : ℕ) → newest_of n (reverse (take count ns)) ≡ k + 1 → k < count → get_or ns k 0 ≡ n
at_newest ns n count k e high =
    sym (ap (λ s. get_or s k 0) (reverse-reverse (take count ns)) ∙ get_or-take count ns k 0 high) ∙ newest_at n k (reverse (take count ns)) e

-- as above, for all
pub above_whole : (ns : List ℕ) (n k : ℕ) → newest_of n (reverse ns) ≤ k → k < length ns → get_or ns k 0 ≢ n
above_whole ns n k low high = above_newest ns n (length ns) k (subst (λ xs. newest_of n (reverse xs) ≤ k) (sym (take_all (length ns) ns (omega arith))) low) high (omega arith)

pub at_whole : (ns : List ℕ) (n k : ℕ) → newest_of n (reverse ns) ≡ k + 1 → k < length ns → get_or ns k 0 ≡ n
at_whole ns n k e high = at_newest ns n (length ns) k (ap (λ xs. newest_of n (reverse xs)) (take_all (length ns) ns (omega arith)) ∙ e) high

module _ {H : Type 0} (node : H → ℕ) (items : List (FormatEntry H)) where
  -- the n oldest entries, the newest first
  abbrev pub under : ℕ → List Entry
  under count = entries_of node (take count items)

  pub under_more : (k : ℕ) (x : FormatEntry H) → k < length items → x ≡ get_or items k x → under (k + 1) ≡ entry_of node x ∷ under k
  under_more k x h e =
      ap (λ xs. entries_of node xs) (take_more items k x h)
      ∙ ap (λ l. reverse l) (map-append (entry_of node) (take k items) (get_or items k x ∷ []))
      ∙ reverse-append (map (entry_of node) (take k items)) (entry_of node (get_or items k x) ∷ [])
      ∙ ap (λ z. entry_of node z ∷ under k) (sym e)

  pub under_all : (k : ℕ) → k ≡ length items → under k ≡ entries_of node items
  under_all k e = ap (λ xs. entries_of node xs) (take_all k items (omega (arith, e)))

  pub length-under : (k : ℕ) → k ≤ length items → length (under k) ≡ k
  length-under k h = length-reverse (map (entry_of node) (take k items)) ∙ length-map (take k items) (entry_of node) ∙ length-take-le k items h

  -- the list is cut at any place
  pub cut_at : (k : ℕ) → entries_of node items ≡ reverse (map (entry_of node) (drop k items)) ++ under k
  cut_at k =
      ap (λ xs. entries_of node xs) (sym (take-append-drop k items))
      ∙ ap (λ l. reverse l) (map-append (entry_of node) (take k items) (drop k items))
      ∙ reverse-append (map (entry_of node) (take k items)) (map (entry_of node) (drop k items))

-- an entry of another number isn't a marker and doesn't have the name
pub passed_over : {H : Type 0} (node : H → ℕ) (name : List ℕ) (x : FormatEntry H) (l : List Entry) → entry_number x ≢ name_number name → entry_number x ≢ 0
    → newest_named name (entry_of node x ∷ l) ≡ newest_named name l
passed_over node name Marker l other element = absurd (element refl)
passed_over node name (Element handle tag) l other element = step (is_same_text tag.name name) refl
  where
    step : (b : Bool) → is_same_text tag.name name ≡ b
        → cond b (Some (record { node = node handle; tag = tag_text tag })) (newest_named name l) ≡ newest_named name l
    step true same = absurd (other (ap (λ t. name_number t) ((bytes_eq-Decides tag.name name).0 same)))
    step false same = refl

-- an entry that isn't a marker and doesn't have the name
other_name : {H : Type 0} (node : H → ℕ) (name : List ℕ) (x : FormatEntry H) (l : List Entry) → is_named name x ≡ false → entry_number x ≢ 0 → newest_named name (entry_of node x ∷ l) ≡ newest_named name l
other_name node name Marker l other element = absurd (element refl)
other_name node name (Element handle tag) l other element = ap (λ b. cond b (Some (record { node = node handle; tag = tag_text tag })) (newest_named name l)) other

-- an entry that has it
record IsTop {H : Type 0} (node : H → ℕ) (name : List ℕ) (x : FormatEntry H) : Type 0 where
  element : FormattingElement
  is : entry_of node x ≡ ElementEntry element.node element.tag
  newest : (l : List Entry) → newest_named name (entry_of node x ∷ l) ≡ Some element

top_named : {H : Type 0} (node : H → ℕ) (name : List ℕ) (x : FormatEntry H) → is_named name x ≡ true → IsTop node name x
top_named node name Marker e = absurd (let f : ⊥ = cc in f)
top_named node name (Element handle tag) e =
    let found : FormattingElement = record { node = node handle; tag = tag_text tag } in
    record { element = found; is = refl; newest = λ l. ap (λ b. cond b (Some found) (newest_named name l)) e }

name_number-some : (name : List ℕ) → name_number name ≢ 0
unfolding name_number
name_number-some name e = omega (arith, e)

-- an entry of a marker's number is one
pub marker_by_number : {H : Type 0} (node : H → ℕ) (x : FormatEntry H) → entry_number x ≡ 0 → entry_of node x ≡ MarkerEntry
marker_by_number node Marker e = refl
marker_by_number node (Element handle tag) e = absurd (name_number-some tag.name e)

-- the newest entry of the name, where those above it are passed
pub found_here : {H : Type 0} (node : H → ℕ) (items : List (FormatEntry H)) (name : List ℕ) (place : ℕ) (x : FormatEntry H) → place < length items → x ≡ get_or items place x → is_named name x ≡ true
    → newest_named name (under node items (place + 1)) ≡ newest_named name (entries_of node items) → IsNewestNamedAt name place (entries_of node items)
found_here node items name place x there e named passed =
    let one = top_named node name x named in
    let seen : under node items (place + 1) ≡ entry_of node x ∷ under node items place = under_more node items place x there e in
    record {
      element = one.element;
      newest = sym passed ∙ ap (λ l. newest_named name l) seen ∙ one.newest (under node items place);
      newer = reverse (map (entry_of node) (drop (place + 1) items));
      older = under node items place;
      cut = cut_at node items (place + 1) ∙ ap (λ l. reverse (map (entry_of node) (drop (place + 1) items)) ++ l) (seen ∙ ap (λ z. z ∷ under node items place) one.is);
      here = sym (length-under node items place (omega (arith, there)));
    }

-- how far a walk over the entries of a name's number has come: all that is above the next one, and above the last marker, is passed
pub record Walks {H T : Type 0} (stack : List (Numbered T)) (items : List (FormatEntry H)) (name : List ℕ) (end next : ℕ) : Type 0 where
  pub ended : end ≡ newest_of 0 (reverse (numbers stack))
  pub inside : end ≤ length items
  pub within : next ≤ length items
  pub has : (k : ℕ) → next ≡ k + 1 → get_or (numbers stack) k 0 ≡ name_number name
  pub passed : (node : H → ℕ) → newest_named name (under node items (max next end)) ≡ newest_named name (entries_of node items)

module _ {H T : Type 0} (stack : List (Numbered T)) (items : List (FormatEntry H)) (all : AreNumbered stack items) where
  its_number : (k : ℕ) → k < length items → get_or (numbers stack) k 0 ≡ entry_number (get_or items k Marker)
  its_number k h = number_is stack items all k (get_or items k Marker) h (get_or_default items k Marker (get_or items k Marker) h)

  more_at : (node : H → ℕ) (k : ℕ) → k < length items → under node items (k + 1) ≡ entry_of node (get_or items k Marker) ∷ under node items k
  more_at node k h = under_more node items k (get_or items k Marker) h (get_or_default items k Marker (get_or items k Marker) h)

  pub as_long : length (numbers stack) ≡ length items
  as_long = ap (λ ns. length ns) all ∙ length-map items (λ (entry : FormatEntry H). entry_number entry)

  -- over some entries, none of which is a marker or has the number of the name
  skipped : (node : H → ℕ) (name : List ℕ) (many low : ℕ) → low + many ≤ length items
      → ((k : ℕ) → low ≤ k → k < low + many → (get_or (numbers stack) k 0 ≢ name_number name) × (get_or (numbers stack) k 0 ≢ 0))
      → newest_named name (under node items (low + many)) ≡ newest_named name (under node items low)
  skipped node name zero low h f = ap (λ k. newest_named name (under node items k)) (add-zero low)
  skipped node name (suc many) low h f =
      let k : ℕ = low + many in
      let there : k < length items = omega (arith, h) in
      let e : low + suc many ≡ k + 1 = omega arith in
      let others = f k (omega arith) (omega arith) in
      ap (λ j. newest_named name (under node items j)) e
      ∙ ap (λ l. newest_named name l) (more_at node k there)
      ∙ passed_over node name (get_or items k Marker) (under node items k) (λ i. others.0 (its_number k there ∙ i)) (λ i. others.1 (its_number k there ∙ i))
      ∙ skipped node name many low (omega (arith, h)) (λ j l u. f j l (omega (arith, u)))

  passed_to : (node : H → ℕ) (name : List ℕ) (low high : ℕ) → low ≤ high → high ≤ length items
      → ((k : ℕ) → low ≤ k → k < high → (get_or (numbers stack) k 0 ≢ name_number name) × (get_or (numbers stack) k 0 ≢ 0))
      → newest_named name (under node items high) ≡ newest_named name (under node items low)
  passed_to node name low high h within f =
      let e : low + (high - low) ≡ high = omega (arith, h) in
      ap (λ k. newest_named name (under node items k)) (sym e) ∙ skipped node name (high - low) low (omega (arith, within, e)) (λ k l u. f k l (omega (arith, u, e)))

  -- a number that is newest at a place of all
  pub above_all : (n k : ℕ) → newest_of n (reverse (numbers stack)) ≤ k → k < length items → get_or (numbers stack) k 0 ≢ n
  above_all n k low high = above_whole (numbers stack) n k low (omega (arith, high, as_long))

  pub at_all : (n k : ℕ) → newest_of n (reverse (numbers stack)) ≡ k + 1 → k < length items → get_or (numbers stack) k 0 ≡ n
  at_all n k e high = at_whole (numbers stack) n k e (omega (arith, high, as_long))

  -- an entry whose number is another than that of a name doesn't have the name
  pub otherwise_named : (name : List ℕ) (k : ℕ) (x : FormatEntry H) → k < length items → x ≡ get_or items k x → get_or (numbers stack) k 0 ≢ name_number name → is_named name x ≡ false
  otherwise_named name k Marker h e other = refl
  otherwise_named name k (Element handle tag) h e other = step (is_same_text tag.name name) refl
    where
      step : (b : Bool) → is_same_text tag.name name ≡ b → b ≡ false
      step true same = absurd (other (number_is stack items all k (Element handle tag) h e ∙ ap (λ t. name_number t) ((bytes_eq-Decides tag.name name).0 same)))
      step false same = refl

  pub walk_begins : (name : List ℕ) (end next : ℕ) → end ≡ newest_of 0 (reverse (numbers stack)) → end ≤ length items → next ≡ newest_of (name_number name) (reverse (numbers stack)) → next ≤ length items → Walks stack items name end next
  walk_begins name end next e i f w = record {
    ended = e;
    inside = i;
    within = w;
    has = λ k s. at_all (name_number name) k (sym f ∙ s) (omega (arith, s, w));
    passed = λ node.
        sym (passed_to node name (max next end) (length items) (omega (arith, i, w)) (omega arith)
        (λ k l u. (above_all (name_number name) k (subst (λ n. n ≤ k) f (omega (arith, l))) u, above_all 0 k (subst (λ n. n ≤ k) e (omega (arith, l))) u)))
        ∙ ap (λ l. newest_named name l) (under_all node items (length items) refl);
  }

  pub walk_goes_on : (name : List ℕ) (end next older : ℕ) (x : FormatEntry H) → Walks stack items name end next → end < next → older ≡ newest_of (get_or (numbers stack) (next - 1) 0) (reverse (take (next - 1) (numbers stack))) → older ≤ next - 1
      → x ≡ get_or items (next - 1) x → is_named name x ≡ false → Walks stack items name end older
  walk_goes_on name end next older x walk more o w e other =
      let place : ℕ = next - 1 in
      let up : max next end ≡ place + 1 = omega (arith, more) in
      let same : get_or (numbers stack) place 0 ≡ name_number name = walk.has place (omega (arith, more)) in
      let there : place < length items = omega (arith, more, walk.within) in
      let is : older ≡ newest_of (name_number name) (reverse (take place (numbers stack))) = o ∙ ap (λ n. newest_of n (reverse (take place (numbers stack)))) same in
      record {
        ended = walk.ended;
        inside = walk.inside;
        within = omega (arith, w, walk.within);
        has = λ k s. at_newest (numbers stack) (name_number name) place k (sym is ∙ s) (omega (arith, s, w));
        passed = λ node.
            sym (passed_to node name (max older end) place (omega (arith, w, more)) (omega (arith, there))
            (λ k l u. (
              above_newest (numbers stack) (name_number name) place k (subst (λ n. n ≤ k) is (omega (arith, l))) u (omega (arith, there, as_long)),
              above_all 0 k (subst (λ n. n ≤ k) walk.ended (omega (arith, l))) (omega (arith, u, there)),
            )))
            ∙ sym (other_name node name x (under node items place) other (λ i. name_number-some name (sym same ∙ number_is stack items all place x there e ∙ i)))
            ∙ sym (ap (λ l. newest_named name l) (ap (λ k. under node items k) up ∙ under_more node items place x there e))
            ∙ walk.passed node;
      }

  -- nothing is left above the last marker
  marker_ends : (node : H → ℕ) (name : List ℕ) (end : ℕ) → end ≡ newest_of 0 (reverse (numbers stack)) → end ≤ length items → newest_named name (under node items end) ≡ None
  marker_ends node name zero e h = refl
  marker_ends node name (suc k) e h =
      let s : k + 1 ≡ suc k = omega arith in
      let there : k < length items = omega (arith, h) in
      let zero_there : get_or (numbers stack) k 0 ≡ 0 = at_all 0 k (sym e ∙ sym s) there in
      ap (λ j. newest_named name (under node items j)) (sym s)
      ∙ ap (λ l. newest_named name l) (more_at node k there ∙ ap (λ z. z ∷ under node items k) (marker_by_number node (get_or items k Marker) (sym (its_number k there) ∙ zero_there)))

  pub walk_ends : (name : List ℕ) (end next : ℕ) → Walks stack items name end next → next ≤ end → (node : H → ℕ) → newest_named name (entries_of node items) ≡ None
  walk_ends name end next walk over node =
      let e : max next end ≡ end = omega (arith, over) in
      sym (walk.passed node) ∙ ap (λ k. newest_named name (under node items k)) e ∙ marker_ends node name end walk.ended walk.inside

  -- the next one has the name
  pub walk_finds : (name : List ℕ) (end next place : ℕ) (x : FormatEntry H) → Walks stack items name end next → end < next → next ≡ place + 1 → x ≡ get_or items place x → is_named name x ≡ true
      → (node : H → ℕ) → IsNewestNamedAt name place (entries_of node items)
  walk_finds name end next place x walk more up e named node =
      let top : max next end ≡ place + 1 = omega (arith, more, up) in
      found_here node items name place x (omega (arith, up, walk.within)) e named (ap (λ k. newest_named name (under node items k)) (sym top) ∙ walk.passed node)

  -- the place right after the last marker
  pub is_after_markers : (end : ℕ) → end ≡ newest_of 0 (reverse (numbers stack)) → end ≤ length items → IsAfterMarkers end items
  is_after_markers end e h = record {
    within = h;
    elements = λ k x l u i none. above_all 0 k (subst (λ n. n ≤ k) e l) u (number_is stack items all k x u i ∙ none);
    ended = λ k x s i. (let there : k < length items = omega (arith, h, s) in sym (number_is stack items all k x there i) ∙ at_all 0 k (sym e ∙ s) there);
  }

-- how far a walk over all entries after the last marker has come
pub record WalksNames {H : Type 0} (items : List (FormatEntry H)) (name : List ℕ) (end next : ℕ) : Type 0 where
  pub low : end ≤ next
  pub within : next ≤ length items
  pub passed : (node : H → ℕ) → newest_named name (under node items next) ≡ newest_named name (entries_of node items)

module _ {H : Type 0} (items : List (FormatEntry H)) (name : List ℕ) (end : ℕ) (after : IsAfterMarkers end items) where
  pub names_begin : (next : ℕ) → next ≡ length items → WalksNames items name end next
  names_begin next e = record {
    low = omega (arith, e, after.within);
    within = omega (arith, e);
    passed = λ node. ap (λ l. newest_named name l) (under_all node items next e);
  }

  pub names_go_on : (next place : ℕ) (x : FormatEntry H) → WalksNames items name end next → end < next → next ≡ place + 1 → x ≡ get_or items place x → is_named name x ≡ false → WalksNames items name end place
  names_go_on next place x walk more up e other =
      let there : place < length items = omega (arith, up, walk.within) in
      record {
        low = omega (arith, more, up);
        within = omega (arith, there);
        passed = λ node.
            sym (other_name node name x (under node items place) other (after.elements place x (omega (arith, more, up)) there e))
            ∙ sym (ap (λ l. newest_named name l) (ap (λ k. under node items k) up ∙ under_more node items place x there e))
            ∙ walk.passed node;
      }

  pub names_find : (next place : ℕ) (x : FormatEntry H) → WalksNames items name end next → next ≡ place + 1 → x ≡ get_or items place x → is_named name x ≡ true → (node : H → ℕ) → IsNewestNamedAt name place (entries_of node items)
  names_find next place x walk up e named node =
      found_here node items name place x (omega (arith, up, walk.within)) e named (ap (λ k. newest_named name (under node items k)) (sym up) ∙ walk.passed node)

  -- nothing is left above the last marker
  pub names_end : (next : ℕ) → WalksNames items name end next → next ≤ end → (node : H → ℕ) → newest_named name (entries_of node items) ≡ None
  names_end next walk over node =
      let e : next ≡ end = omega (arith, over, walk.low) in
      sym (walk.passed node) ∙ ap (λ k. newest_named name (under node items k)) e ∙ at node end refl
    where
      at : (node : H → ℕ) (k : ℕ) → end ≡ k → newest_named name (under node items k) ≡ None
      at node zero i = refl
      at node (suc k) i =
          let s : suc k ≡ k + 1 = omega arith in
          let there : k < length items = omega (arith, i, after.within) in
          let x : FormatEntry H = get_or items k Marker in
          let here : x ≡ get_or items k x = get_or_default items k Marker x there in
          ap (λ j. newest_named name (under node items j)) s
          ∙ ap (λ l. newest_named name l) (under_more node items k x there here ∙ ap (λ z. z ∷ under node items k) (marker_by_number node x (after.ended k x (i ∙ s) here)))
