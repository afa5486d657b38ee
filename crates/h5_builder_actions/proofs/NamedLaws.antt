-- Entries of other names aren't those of an element of a name.
use Rattle.std.proofs.Common.{◌≡◌, ◌+◌, ◌-◌, ◌<◌, ◌≤◌, ℕ, zero, suc, cond, false, true, Some, List, [], ◌∷◌, ◌++◌, drop, get_or, length, map, reverse, refl, ap, sym, subst, ◌∙◌, arith}
use Rattle.std.proofs.lemmas.Bool.{and_parts}
use Rattle.std.proofs.lemmas.List.{get_or_default}
use Rattle.std.proofs.lemmas.Slice.Eq.{bytes_eq-Decides}
use Rattle.h5_names.specs.AttributeText.{is_same_text}
use Rattle.h5_token.specs.TokenText.{TagText, tag_text}
use Rattle.h5_interface.specs.Forest.{ElementNode, Forest, kind_of}
use Rattle.h5_tables.specs.TagSets.{html_namespace, is_html_named}
use Rattle.h5_tables.specs.declared.entry.FormatEntry.{FormatEntry}
use Rattle.h5_tables.specs.declared.entry.FormatEntry.TheVariants.{Element, Marker}
use Rattle.h5_builder_spec.specs.formatting.FormattingList.{EachEntry, ElementEntry, Entry, MarkerEntry, nodes_of}
use Rattle.h5_builder_spec.specs.formatting.FormattingNames.{IsOfTag, html_name}
use Rattle.h5_builder_spec.specs.stack.Order.{first_or, is_in}
use Rattle.h5_builder_spec.specs.stack.Scope.{first_passes}
use Rattle.h5_builder_spec.specs.World.{name_in, name_of_found}
use Rattle.h5_builder_state.specs.Listed.{AreOtherwiseNamed, entries_of, entry_of, is_named}
use Rattle.h5_builder_state.proofs.ListWalkLaws.{cut_at, under, under_more}
use Rattle.h5_builder_actions.specs.EntryPlaces.{is_entry_of}
use Rattle.h5_builder_actions.proofs.EntryLaws.{other_entry}

-- what holds for each entry holds for each older one
each_older : (P : ℕ → TagText → Type 0) (newer older : List Entry) → EachEntry P (newer ++ older) → EachEntry P older
each_older P [] older h = h
each_older P (MarkerEntry ∷ newer) older h = each_older P newer older h
each_older P (ElementEntry n t ∷ newer) older h = each_older P newer older h.1

module _ {H : Type 0} (node : H → ℕ) (f : Forest) (name : List ℕ) (n : ℕ) (named : (name_in f n).local ≡ name) where
  -- an entry of another name
  not_here : (x : FormatEntry H) (l : List Entry) → is_named name x ≡ false → EachEntry (IsOfTag f) (entry_of node x ∷ l) → is_in n (nodes_of (entry_of node x ∷ l)) ≡ is_in n (nodes_of l)
  not_here Marker l other each = refl
  not_here (Element handle tag) l other each = other_entry n (node handle) (tag_text tag) l (λ same.
      let kind = subst (λ m. kind_of f m ≡ Some (ElementNode (html_name tag.name))) same each.0 in
      let local : tag.name ≡ name = sym (ap (λ k. (name_of_found k).local) kind) ∙ named in
      let yes : is_same_text tag.name name ≡ true = (bytes_eq-Decides tag.name name).1 local in
      absurd (cc))

  module _ (items : List (FormatEntry H)) (each : EachEntry (IsOfTag f) (entries_of node items)) where
    passed_by : (many from : ℕ) → from + many ≤ length items → AreOtherwiseNamed name from (from + many) items
        → is_in n (nodes_of (under node items (from + many))) ≡ is_in n (nodes_of (under node items from))
    passed_by zero from h others = let here : from + zero ≡ from = omega arith in ap (λ k. is_in n (nodes_of (under node items k))) here
    passed_by (suc many) from h others =
        let k = from + many in
        let more : from + suc many ≡ k + 1 = omega arith in
        let there : k < length items = omega (arith, h) in
        let x : FormatEntry H = get_or items k Marker in
        let is : x ≡ get_or items k x = get_or_default items k Marker x there in
        let top = under_more node items k x there is in
        let rest = each_older (IsOfTag f) (reverse (map (entry_of node) (drop (k + 1) items))) (under node items (k + 1)) (subst (EachEntry (IsOfTag f)) (cut_at node items (k + 1)) each) in
        ap (λ j. is_in n (nodes_of (under node items j))) more ∙ ap (λ l. is_in n (nodes_of l)) top
        ∙ not_here x (under node items k) (others k x (omega arith) (omega arith) is) (subst (EachEntry (IsOfTag f)) top rest)
        ∙ passed_by many from (omega (arith, h)) (λ j y low high e. others j y low (omega (arith, high)) e)

    -- entries of other names
    pub passed_others : (from to : ℕ) → from ≤ to → to ≤ length items → AreOtherwiseNamed name from to items → is_in n (nodes_of (under node items from)) ≡ is_in n (nodes_of (under node items to))
    passed_others from to h within others =
        let e : from + (to - from) ≡ to = omega (arith, h) in
        sym (sym (ap (λ k. is_in n (nodes_of (under node items k))) e)
        ∙ passed_by (to - from) from (omega (arith, e, within)) (subst (λ k. AreOtherwiseNamed name from k items) (sym e) others))

-- the next entry is that of an element, or isn't
pub is_here : (n : ℕ) (e : Entry) (l : List Entry) → is_entry_of n e ≡ true → is_in n (nodes_of (e ∷ l)) ≡ true
is_here n MarkerEntry l h = absurd (cc)
is_here n (ElementEntry m tag) l h = ap (λ b. cond b true (is_in n (nodes_of l))) h

pub is_older : (n : ℕ) (e : Entry) (l : List Entry) → is_entry_of n e ≡ false → is_in n (nodes_of (e ∷ l)) ≡ is_in n (nodes_of l)
is_older n MarkerEntry l h = refl
is_older n (ElementEntry m tag) l h = ap (λ b. cond b true (is_in n (nodes_of l))) h

-- the current node, where it is an HTML element of a name
pub current_named : (f : Forest) (document : ℕ) (name s : List ℕ) → first_passes (is_html_named name) (map (name_in f) s) ≡ true → (name_in f (first_or document s)).local ≡ name
unfolding is_html_named
current_named f document name [] h = absurd (cc)
current_named f document name (n ∷ s) h =
    let m = name_in f n in
    (bytes_eq-Decides m.local name).0 (and_parts (is_same_text m.ns html_namespace) (is_same_text m.local name) h).1
