-- Two walks that find the entries which are alike to a tag: over all after the last marker, and over those that have its key or none.
use Rattle.std.proofs.Common.{◌≡◌, ◌≢◌, ◌+◌, ◌-◌, ◌<◌, ◌≤◌, ℕ, zero, suc, false, cond, max, List, ◌∷◌, get_or, length, reverse, take, refl, ap, sym, subst, ◌∙◌, add-zero, inl, inr, arith}
use Rattle.std.proofs.lemmas.Bool.{cases_lt}
use Rattle.std.proofs.lemmas.List.{get_or_default}
use Rattle.h5_token.specs.TokenText.{TagText}
use Rattle.h5_tables.specs.declared.entry.FormatEntry.{FormatEntry}
use Rattle.h5_tables.specs.declared.entry.FormatEntry.TheVariants.{Element, Marker}
use Rattle.h5_builder_spec.specs.formatting.FormattingList.{Entry}
use Rattle.h5_builder_state.specs.Numbered.{newest_of}
use Rattle.h5_builder_state.specs.declared.surplus.Alike.{Alike}
use Rattle.h5_builder_state.specs.Keys.{AreOthers}
use Rattle.h5_builder_state.specs.Listed.{alike_from, entries_of, entry_of, is_alike_entry, none_found}
use Rattle.h5_builder_state.specs.ListNumbers.{IsAfterMarkers, entry_number}
use Rattle.h5_builder_state.proofs.ListWalkLaws.{above_newest, above_whole, at_newest, at_whole, length-under, marker_by_number, under, under_all, under_more}

-- an entry that isn't alike
other_entry : {H : Type 0} (node : H → ℕ) (t : TagText) (x : FormatEntry H) (l : List Entry) (found : Alike) → entry_number x ≢ 0 → is_alike_entry t x ≡ false → alike_from t (entry_of node x ∷ l) found ≡ alike_from t l found
other_entry node t Marker l found element other = absurd (element refl)
other_entry node t (Element handle u) l found element other =
    ap (λ b. cond b (alike_from t l (record { count = suc found.count; earliest = length l })) (alike_from t l found)) other

-- what a look at an entry finds, whatever is older
abbrev pub Finds : {H : Type 0} → TagText → FormatEntry H → ℕ → Alike → Alike → Type 0
Finds {H} t x place found result = (node : H → ℕ) (older : List Entry) → length older ≡ place → alike_from t (entry_of node x ∷ older) found ≡ alike_from t older result

module _ {H : Type 0} (items : List (FormatEntry H)) (t : TagText) where
  looked_at : (node : H → ℕ) (place : ℕ) (x : FormatEntry H) (found result : Alike) → place < length items → x ≡ get_or items place x → Finds t x place found result → alike_from t (under node items (place + 1)) found ≡ alike_from t (under node items place) result
  looked_at node place x found result there e finds =
      ap (λ l. alike_from t l found) (under_more node items place x there e) ∙ finds node (under node items place) (length-under node items place (omega (arith, there)))

  -- nothing is found from the last marker on
  markers_end : (node : H → ℕ) (end : ℕ) (found : Alike) → IsAfterMarkers end items → alike_from t (under node items end) found ≡ found
  markers_end node zero found after = refl
  markers_end node (suc k) found after =
      let s : suc k ≡ k + 1 = omega arith in
      let there : k < length items = omega (arith, after.within) in
      let x : FormatEntry H = get_or items k Marker in
      let here : x ≡ get_or items k x = get_or_default items k Marker x there in
      ap (λ j. alike_from t (under node items j) found) s
      ∙ ap (λ l. alike_from t l found) (under_more node items k x there here)
      ∙ ap (λ z. alike_from t (z ∷ under node items k) found) (marker_by_number node x (after.ended k x s here))

  -- over some entries, none of which is a marker or alike
  abbrev AreOtherFrom : ℕ → ℕ → Type 0
  AreOtherFrom low high = (k : ℕ) (x : FormatEntry H) → low ≤ k → k < high → x ≡ get_or items k x → (entry_number x ≢ 0) × (is_alike_entry t x ≡ false)

  skipped : (node : H → ℕ) (found : Alike) (many low : ℕ) → low + many ≤ length items → AreOtherFrom low (low + many) → alike_from t (under node items (low + many)) found ≡ alike_from t (under node items low) found
  skipped node found zero low h f = ap (λ k. alike_from t (under node items k) found) (add-zero low)
  skipped node found (suc many) low h f =
      let k : ℕ = low + many in
      let there : k < length items = omega (arith, h) in
      let e : low + suc many ≡ k + 1 = omega arith in
      let x : FormatEntry H = get_or items k Marker in
      let here : x ≡ get_or items k x = get_or_default items k Marker x there in
      let other = f k x (omega arith) (omega arith) here in
      ap (λ j. alike_from t (under node items j) found) e
      ∙ ap (λ l. alike_from t l found) (under_more node items k x there here)
      ∙ other_entry node t x (under node items k) found other.0 other.1
      ∙ skipped node found many low (omega (arith, h)) (λ j y l u. f j y l (omega (arith, u)))

  skipped_to : (node : H → ℕ) (found : Alike) (low high : ℕ) → low ≤ high → high ≤ length items → AreOtherFrom low high → alike_from t (under node items high) found ≡ alike_from t (under node items low) found
  skipped_to node found low high h within f =
      let e : low + (high - low) ≡ high = omega (arith, h) in
      ap (λ k. alike_from t (under node items k) found) (sym e) ∙ skipped node found (high - low) low (omega (arith, within, e)) (λ k x l u. f k x l (omega (arith, u, e)))

-- how far a walk over all entries has come
pub record WalksAll {H : Type 0} (items : List (FormatEntry H)) (t : TagText) (end next : ℕ) (found : Alike) : Type 0 where
  pub low : end ≤ next
  pub few : found.count + next ≤ length items
  pub passed : (node : H → ℕ) → alike_from t (under node items next) found ≡ alike_from t (entries_of node items) none_found

module _ {H : Type 0} (items : List (FormatEntry H)) (t : TagText) (end : ℕ) (after : IsAfterMarkers end items) where
  pub all_begin : (next : ℕ) → next ≡ length items → WalksAll items t end next none_found
  all_begin next e = record {
    low = omega (arith, e, after.within);
    few = omega (arith, e);
    passed = λ node. ap (λ l. alike_from t l none_found) (under_all node items next e);
  }

  pub all_go_on : (next place : ℕ) (found result : Alike) (x : FormatEntry H) → WalksAll items t end next found → end < next → next ≡ place + 1 → x ≡ get_or items place x → (entry_number x ≢ 0 → Finds t x place found result) → result.count ≤ found.count + 1
      → WalksAll items t end place result
  all_go_on next place found result x walk more up e finds one =
      let there : place < length items = omega (arith, walk.few, up) in
      record {
        low = omega (arith, more, up);
        few = omega (arith, walk.few, up, one);
        passed = λ node.
            sym (ap (λ j. alike_from t (under node items j) found) up ∙ looked_at items t node place x found result there e (finds (after.elements place x (omega (arith, more, up)) there e)))
            ∙ walk.passed node;
      }

  pub all_end : (next : ℕ) (found : Alike) → WalksAll items t end next found → next ≤ end → (node : H → ℕ) → found ≡ alike_from t (entries_of node items) none_found
  all_end next found walk over node =
      let e : next ≡ end = omega (arith, over, walk.low) in
      sym (ap (λ j. alike_from t (under node items j) found) e ∙ markers_end items t node end found after) ∙ walk.passed node

-- two walks over the places of two numbers, which go down together
pub record Chains (ns : List ℕ) (m n a b : ℕ) : Type 0 where
  pub first_within : a ≤ length ns
  pub second_within : b ≤ length ns
  pub first_at : (k : ℕ) → a ≡ k + 1 → get_or ns k 0 ≡ m
  pub second_at : (k : ℕ) → b ≡ k + 1 → get_or ns k 0 ≡ n
  pub first_above : (k : ℕ) → a ≤ k → k < b → get_or ns k 0 ≢ m
  pub second_above : (k : ℕ) → b ≤ k → k < a → get_or ns k 0 ≢ n

chains_turned : (ns : List ℕ) (m n a b : ℕ) → Chains ns m n a b → Chains ns n m b a
chains_turned ns m n a b c = record {
  first_within = c.second_within;
  second_within = c.first_within;
  first_at = c.second_at;
  second_at = c.first_at;
  first_above = c.second_above;
  second_above = c.first_above;
}

chains_begin : (ns : List ℕ) (m n a b : ℕ) → a ≡ newest_of m (reverse ns) → b ≡ newest_of n (reverse ns) → a ≤ length ns → b ≤ length ns → Chains ns m n a b
chains_begin ns m n a b e f v w = record {
  first_within = v;
  second_within = w;
  first_at = λ k s. at_whole ns m k (sym e ∙ s) (omega (arith, s, v));
  second_at = λ k s. at_whole ns n k (sym f ∙ s) (omega (arith, s, w));
  first_above = λ k l u. above_whole ns m k (subst (λ z. z ≤ k) e l) (omega (arith, u, w));
  second_above = λ k l u. above_whole ns n k (subst (λ z. z ≤ k) f l) (omega (arith, u, v));
}

-- the first one goes on
record GoesOn (ns : List ℕ) (m n b older place : ℕ) : Type 0 where
  chains : Chains ns m n older b
  gap : (k : ℕ) → max older b ≤ k → k < place → (get_or ns k 0 ≢ m) × (get_or ns k 0 ≢ n)

chain_goes_on : (ns : List ℕ) (m n a b older place : ℕ) → Chains ns m n a b → b < a → a ≡ place + 1 → older ≡ newest_of (get_or ns place 0) (reverse (take place ns)) → older ≤ place → GoesOn ns m n b older place
chain_goes_on ns m n a b older place c low up o w =
    let is : older ≡ newest_of m (reverse (take place ns)) = o ∙ ap (λ z. newest_of z (reverse (take place ns))) (c.first_at place up) in
    let within : place ≤ length ns = omega (arith, c.first_within, up) in
    let above : (k : ℕ) → older ≤ k → k < place → get_or ns k 0 ≢ m = λ k l u. above_newest ns m place k (subst (λ z. z ≤ k) is l) u within in
    record {
      chains = record {
        first_within = omega (arith, w, within);
        second_within = c.second_within;
        first_at = λ k s. at_newest ns m place k (sym is ∙ s) (omega (arith, s, w));
        second_at = c.second_at;
        first_above = λ k l u. above k l (omega (arith, u, low, up));
        second_above = λ k l u. c.second_above k l (omega (arith, u, w, up));
      };
      gap = λ k l u. (above k (omega (arith, l)) u, c.second_above k (omega (arith, l)) (omega (arith, u, up)));
    }

-- how far a walk over the entries that have a key or none has come
pub record WalksKeys {H : Type 0} (items : List (FormatEntry H)) (ns : List ℕ) (t : TagText) (number end keyed unkeyed : ℕ) (found : Alike) : Type 0 where
  pub chains : Chains ns number 0 keyed unkeyed
  pub few : found.count + max keyed unkeyed ≤ length items
  pub passed : (node : H → ℕ) → alike_from t (under node items (max (max keyed unkeyed) end)) found ≡ alike_from t (entries_of node items) none_found

module _ {H : Type 0} (items : List (FormatEntry H)) (ns : List ℕ) (t : TagText) (number end : ℕ) (after : IsAfterMarkers end items) (others : AreOthers t number ns items) where
  -- entries that have another key
  other_from : (low high : ℕ) → high ≤ length items → ((k : ℕ) → low ≤ k → k < high → (get_or ns k 0 ≢ number) × (get_or ns k 0 ≢ 0)) → AreOtherFrom items t (max low end) high
  other_from low high within f k x l u e =
      let apart = f k (omega (arith, l)) u in
      let there : k < length items = omega (arith, u, within) in
      (after.elements k x (omega (arith, l)) there e, others.others k x there e apart.1 apart.0)

  pub keys_begin : (keyed unkeyed : ℕ) → keyed ≡ newest_of number (reverse ns) → unkeyed ≡ newest_of 0 (reverse ns) → keyed ≤ length ns → unkeyed ≤ length ns → WalksKeys items ns t number end keyed unkeyed none_found
  keys_begin keyed unkeyed e f v w =
      let many = others.as_many in
      let top : ℕ = max keyed unkeyed in
      record {
        chains = chains_begin ns number 0 keyed unkeyed e f v w;
        few = omega (arith, v, w, many);
        passed = λ node.
            sym (skipped_to items t node none_found (max top end) (length items) (omega (arith, v, w, many, after.within)) (omega arith)
            (other_from top (length items) (omega arith)
            (λ k l u. (
              above_whole ns number k (subst (λ z. z ≤ k) e (omega (arith, l))) (omega (arith, u, many)),
              above_whole ns 0 k (subst (λ z. z ≤ k) f (omega (arith, l))) (omega (arith, u, many)),
            ))))
            ∙ ap (λ l. alike_from t l none_found) (under_all node items (length items) refl);
      }

  -- a look at an entry, and over those down to a place
  passed_on : (place low : ℕ) (x : FormatEntry H) (found result : Alike) → end ≤ place → place < length items → low ≤ place → x ≡ get_or items place x → (entry_number x ≢ 0 → Finds t x place found result)
      → ((k : ℕ) → low ≤ k → k < place → (get_or ns k 0 ≢ number) × (get_or ns k 0 ≢ 0)) → (node : H → ℕ)
      → alike_from t (under node items (place + 1)) found ≡ alike_from t (under node items (max low end)) result
  passed_on place low x found result over there down e finds gap node =
      looked_at items t node place x found result there e (finds (after.elements place x over there e))
      ∙ skipped_to items t node result (max low end) place (omega (arith, down, over)) (omega (arith, there)) (other_from low place (omega (arith, there)) gap)

  pub keys_go_on : (keyed unkeyed place older : ℕ) (found result : Alike) (x : FormatEntry H) → WalksKeys items ns t number end keyed unkeyed found → end < max keyed unkeyed → max keyed unkeyed ≡ place + 1
      → older ≡ newest_of (get_or ns place 0) (reverse (take place ns)) → older ≤ place → x ≡ get_or items place x → (entry_number x ≢ 0 → Finds t x place found result) → result.count ≤ found.count + 1
      → (unkeyed < keyed → WalksKeys items ns t number end older unkeyed result) × (keyed ≤ unkeyed → WalksKeys items ns t number end keyed older result)
  keys_go_on keyed unkeyed place older found result x walk more up o w e finds one = (first, second)
    where
      there : place < length items
      there = omega (arith, walk.few, up)

      from : (node : H → ℕ) → alike_from t (under node items (place + 1)) found ≡ alike_from t (entries_of node items) none_found
      from node = let s : place + 1 ≡ max (max keyed unkeyed) end = omega (arith, more, up) in ap (λ j. alike_from t (under node items j) found) s ∙ walk.passed node

      first : unkeyed < keyed → WalksKeys items ns t number end older unkeyed result
      first low =
          let next = chain_goes_on ns number 0 keyed unkeyed older place walk.chains low (omega (arith, low, up)) o w in
          record {
            chains = next.chains;
            few = omega (arith, walk.few, one, w, low, up);
            passed = λ node. sym (passed_on place (max older unkeyed) x found result (omega (arith, more, up)) there (omega (arith, w, low, up)) e finds next.gap node) ∙ from node;
          }

      second : keyed ≤ unkeyed → WalksKeys items ns t number end keyed older result
      second low =
          let at : unkeyed ≡ place + 1 = omega (arith, low, up) in
          let lower : keyed < unkeyed = below at in
          let next = chain_goes_on ns 0 number unkeyed keyed older place (chains_turned ns number 0 keyed unkeyed walk.chains) lower at o w in
          record {
            chains = chains_turned ns 0 number older keyed next.chains;
            few = omega (arith, walk.few, one, w, lower, up);
            passed = λ node.
                sym (passed_on place (max keyed older) x found result (omega (arith, more, up)) there (omega (arith, w, lower, up)) e finds
                (λ k l u. (let g = next.gap k (omega (arith, l)) u in (g.1, g.0))) node)
                ∙ from node;
          }
        where
          -- no entry has both numbers
          below : unkeyed ≡ place + 1 → keyed < unkeyed
          below at = elim (cases_lt keyed unkeyed) [
            | inl less ↦ less
            | inr more ↦ absurd (others.some (sym (walk.chains.first_at place (omega (arith, at, low, more))) ∙ walk.chains.second_at place at))
          ]

  pub keys_end : (keyed unkeyed : ℕ) (found : Alike) → WalksKeys items ns t number end keyed unkeyed found → max keyed unkeyed ≤ end → (node : H → ℕ) → found ≡ alike_from t (entries_of node items) none_found
  keys_end keyed unkeyed found walk over node =
      let e : max (max keyed unkeyed) end ≡ end = omega (arith, over) in
      sym (ap (λ j. alike_from t (under node items j) found) e ∙ markers_end items t node end found after) ∙ walk.passed node
