-- The stamps of open elements when elements are pushed or removed.
use Rattle.std.specs.Prelude.{slice_get}
use Rattle.std.proofs.Common.{◌≡◌, Some, ◌+◌, ◌-◌, ◌<◌, ◌≤◌, ℕ, zero, suc, false, List, [], ◌∷◌, ◌++◌, drop, get_or, length, map, reverse, take, inl, inr, refl, ap, sym, subst, ◌∙◌, arith}
use Rattle.std.proofs.Math.Seq.{take-append_seam}
use Rattle.std.specs.List.{All}
use Rattle.std.proofs.lemmas.List.{drop-map, get_or-map, length-drop, length-map, map-append, reverse-reverse, take-map}
use Rattle.std.proofs.lemmas.Simd.{map-map}
use Rattle.std.proofs.lemmas.List.Elements.{All-append, All-cons, All-drop, All-head, All-push, All-tail, All-take}
use Rattle.h5_tables.specs.declared.entry.FormatEntry.{FormatEntry}
use Rattle.h5_tables.specs.declared.entry.FormatEntry.TheVariants.{Element, Marker}
use Rattle.h5_builder_spec.specs.stack.Order.{Distinct, IsIn, is_in}
use Rattle.h5_builder_spec.proofs.entries.PairLaws.{is_in_false}
use Rattle.h5_builder_state.specs.Numbered.{values}
use Rattle.h5_builder_state.specs.Stamps.{AreStamped, IsAbove, IsStamped, MayStandBelow, NoneLower, OpenStamp, stamp_of, stamps_of}
use Rattle.h5_builder_state.specs.View.{open_node}
use Rattle.h5_builder_state.specs.declared.open_element.Listed.{Listed}
use Rattle.h5_builder_state.specs.declared.open_element.OpenElement.{OpenElement}
use Rattle.h5_builder_state.specs.declared.open_element.OpenElements.{OpenElements}
use Rattle.h5_builder_state.proofs.ReplacedLaws.{in_reverse}
use Rattle.h5_builder_state.proofs.StackLaws.{last_split, seen_pushed, stack_step}
use Rattle.h5_builder_state.proofs.WalkLaws.{there}

abbrev node_in : OpenStamp → ℕ
node_in one = one.node

-- no stamp is lower than 0
pub above_none : (n : ℕ) (opens : List OpenStamp) → IsAbove n 0 opens
above_none n [] = tt
above_none n (o ∷ opens) = (λ e k d h. omega arith, above_none n opens)

module _ (n stamp : ℕ) where
  abbrev not_lower : OpenStamp → Type 0
  not_lower o = stamp ≤ o.stamp

  -- one more, the newest
  pub above_pushed : (opens : List OpenStamp) (o : OpenStamp) → stamp ≤ o.stamp → IsAbove n stamp opens → IsAbove n stamp (opens ++ o ∷ [])
  above_pushed [] o h a = (λ e. All-push not_lower [] o (λ k d l. absurd (omega arith)) h, tt)
  above_pushed (x ∷ opens) o h a = (λ e. All-push not_lower (x ∷ opens) o (a.0 e) h, above_pushed opens o h a.1)

  -- the newest is that node, and no other is
  above_top : (opens : List OpenStamp) (o : OpenStamp) → stamp ≤ o.stamp → ¬ (IsIn n (map node_in opens)) → IsAbove n stamp (opens ++ o ∷ [])
  above_top [] o h out = (λ e. All-push not_lower [] o (λ k d l. absurd (omega arith)) h, tt)
  above_top (x ∷ opens) o h out = (λ e. absurd (out (inl (sym e))), above_top opens o h (λ i. out (inr i)))

  -- it isn't open
  pub above_unopened : (opens : List OpenStamp) → ¬ (IsIn n (map node_in opens)) → IsAbove n stamp opens
  above_unopened [] out = tt
  above_unopened (x ∷ opens) out = (λ e. absurd (out (inl (sym e))), above_unopened opens (λ i. out (inr i)))

  -- from where it is open on, none is lower
  pub above_at : (place up : ℕ) (opens : List OpenStamp) (o : OpenStamp) → place < length opens → o ≡ get_or opens place o → o.node ≡ n → place ≤ up → IsAbove n stamp opens → NoneLower stamp (drop up opens)
  above_at place up [] o h e is l a = absurd (omega (arith, h))
  above_at zero zero (x ∷ opens) o h e is l a = a.0 (ap (λ (y : OpenStamp). y.node) (sym e) ∙ is)
  above_at zero (suc up) (x ∷ opens) o h e is l a = All-drop not_lower up opens (All-tail not_lower x opens (a.0 (ap (λ (y : OpenStamp). y.node) (sym e) ∙ is)))
  above_at (suc place) zero (x ∷ opens) o h e is l a = absurd (omega (arith, l))
  above_at (suc place) (suc up) (x ∷ opens) o h e is l a = above_at place up opens o (omega (arith, h)) e is (omega (arith, l)) a.1

  -- the oldest
  pub above_oldest : (count : ℕ) (opens : List OpenStamp) → IsAbove n stamp opens → IsAbove n stamp (take count opens)
  above_oldest zero opens a = tt
  above_oldest (suc count) [] a = tt
  above_oldest (suc count) (x ∷ opens) a = (λ e. All-take not_lower (suc count) (x ∷ opens) (a.0 e), above_oldest count opens a.1)

  -- the newest
  pub above_newest : (count : ℕ) (opens : List OpenStamp) → IsAbove n stamp opens → IsAbove n stamp (drop count opens)
  above_newest zero opens a = a
  above_newest (suc count) [] a = tt
  above_newest (suc count) (x ∷ opens) a = above_newest count opens a.1

  -- one is taken out
  pub above_removed : (place : ℕ) (opens : List OpenStamp) → IsAbove n stamp opens → IsAbove n stamp (take place opens ++ drop (suc place) opens)
  above_removed zero [] a = tt
  above_removed zero (x ∷ opens) a = a.1
  above_removed (suc place) [] a = tt
  above_removed (suc place) (x ∷ opens) a = (
    λ e. All-cons not_lower x _ (All-head not_lower x opens (a.0 e))
        (All-append not_lower (take place opens) (drop (suc place) opens) (All-take not_lower place opens (All-tail not_lower x opens (a.0 e))) (All-drop not_lower (suc place) opens (All-tail not_lower x opens (a.0 e)))),
    above_removed place opens a.1,
  )

  -- at one that is lower, and below, it isn't open
  pub below_lower : (place : ℕ) (opens : List OpenStamp) (o : OpenStamp) → place < length opens → o ≡ get_or opens place o → o.stamp < stamp → IsAbove n stamp opens → ¬ (IsIn n (map node_in (take (suc place) opens)))
  below_lower place [] o h e l a i = absurd (omega (arith, h))
  below_lower zero (x ∷ opens) o h e l a (inl same) = let low : stamp ≤ x.stamp = All-head not_lower x opens (a.0 (sym same)) in absurd (omega (arith, l, low, ap (λ (y : OpenStamp). y.stamp) e))
  below_lower zero (x ∷ opens) o h e l a (inr i) = i
  below_lower (suc place) (x ∷ opens) o h e l a (inl same) =
      let low : stamp ≤ (get_or (x ∷ opens) (suc place) o).stamp = a.0 (sym same) (suc place) o h in
      absurd (omega (arith, l, low, ap (λ (y : OpenStamp). y.stamp) e))
  below_lower (suc place) (x ∷ opens) o h e l a (inr i) = below_lower place opens o (omega (arith, h)) e l a.1 i

  -- these stand where others stood, each with the stamp of the newest of those; it may stand among them
  module _ (b : OpenStamp) where
    put_above : (ms high : List OpenStamp) → All (λ (m : OpenStamp). m.stamp ≡ b.stamp) ms → (IsIn n (map node_in ms) → NoneLower stamp (b ∷ high)) → IsAbove n stamp high → IsAbove n stamp (ms ++ high)
    put_above [] high same may a = a
    put_above (m ∷ ms) high same may a = (
      λ e. let all = may (inl (sym e)) in let low : stamp ≤ b.stamp = All-head not_lower b high all in
          All-append not_lower (m ∷ ms) high (λ k d h. let is = same k d h in omega (arith, is, low)) (All-tail not_lower b high all),
      put_above ms high (All-tail (λ (m : OpenStamp). m.stamp ≡ b.stamp) m ms same) (λ i. may (inr i)) a,
    )

    pub above_replaced : (first last : ℕ) (opens ms : List OpenStamp) → first ≤ last → last < length opens → b ≡ get_or opens last b → All (λ (m : OpenStamp). m.stamp ≡ b.stamp) ms
        → (IsIn n (map node_in ms) → NoneLower stamp (drop last opens)) → IsAbove n stamp opens → IsAbove n stamp (take first opens ++ (ms ++ drop (suc last) opens))
    above_replaced first last [] ms h l e same may a = absurd (omega (arith, l))
    above_replaced zero zero (x ∷ opens) ms h l e same may a =
        put_above ms opens same (λ i. subst (λ z. NoneLower stamp (z ∷ opens)) (sym e) (may i)) a.1
    above_replaced zero (suc last) (x ∷ opens) ms h l e same may a = above_replaced zero last opens ms (omega arith) (omega (arith, l)) e same may a.1
    above_replaced (suc first) zero (x ∷ opens) ms h l e same may a = absurd (omega (arith, h))
    above_replaced (suc first) (suc last) (x ∷ opens) ms h l e same may a = (
      λ i. let all = a.0 i in let rest = All-tail not_lower x opens all in
          let low : stamp ≤ (get_or (x ∷ opens) (suc last) b).stamp = all (suc last) b l in
          All-cons not_lower x _ (All-head not_lower x opens all)
          (All-append not_lower (take first opens) (ms ++ drop (suc last) opens) (All-take not_lower first opens rest)
          (All-append not_lower ms (drop (suc last) opens) (λ k d h. let is = same k d h in omega (arith, is, low, ap (λ (y : OpenStamp). y.stamp) e)) (All-drop not_lower (suc last) opens rest))),
      above_replaced first last opens ms (omega (arith, h)) (omega (arith, l)) e same may a.1,
    )

-- the entries, where open elements came or left
entry_stamped : {H : Type 0} (node : H → ℕ) (old new : List OpenStamp) (last newest : ℕ) → last ≤ newest → ((n stamp : ℕ) → stamp ≤ last → IsAbove n stamp old → IsAbove n stamp new)
    → (entry : FormatEntry (Listed H)) → IsStamped node old last entry → IsStamped node new newest entry
entry_stamped node old new last newest h step (Element listed tag) s = (omega (arith, h, s.0), step (node listed.handle) listed.stamp s.0 s.1)
entry_stamped node old new last newest h step Marker s = tt

module _ {H : Type 0} (node : H → ℕ) (old new : OpenElements H) (entries : List (FormatEntry (Listed H))) where
  pub stamped_by : old.last ≤ new.last → ((n stamp : ℕ) → stamp ≤ old.last → IsAbove n stamp (stamps_of node old) → IsAbove n stamp (stamps_of node new)) → AreStamped node old entries → AreStamped node new entries
  unfolding AreStamped
  stamped_by h step s = λ k d l. entry_stamped node (stamps_of node old) (stamps_of node new) old.last new.last h step (get_or entries k d) (s k d l)

  -- the same open elements
  pub stamped_same : stamps_of node new ≡ stamps_of node old → new.last ≡ old.last → AreStamped node old entries → AreStamped node new entries
  stamped_same e h = stamped_by (omega (arith, h)) (λ n stamp l a. subst (λ opens. IsAbove n stamp opens) (sym e) a)

  pub stamped_oldest : (count : ℕ) → values new.elements ≡ take count (values old.elements) → new.last ≡ old.last → AreStamped node old entries → AreStamped node new entries
  stamped_oldest count e h =
      stamped_by (omega (arith, h)) (λ n stamp l a. subst (λ opens. IsAbove n stamp opens) (take-map (λ (o : OpenElement H). stamp_of node o) count (values old.elements) ∙ ap (map (λ (o : OpenElement H). stamp_of node o)) (sym e)) (above_oldest n stamp count (stamps_of node old) a))

  pub stamped_popped : (x : OpenElement H) → values old.elements ≡ values new.elements ++ x ∷ [] → new.last ≡ old.last → AreStamped node old entries → AreStamped node new entries
  stamped_popped x e h = stamped_oldest (length (values new.elements)) (sym (ap (take (length (values new.elements))) e ∙ take-append_seam (values new.elements) (x ∷ []))) h

  pub stamped_pushed : (x : OpenElement H) → values new.elements ≡ values old.elements ++ x ∷ [] → old.last ≤ x.stamp → new.last ≡ x.stamp → AreStamped node old entries → AreStamped node new entries
  stamped_pushed x e h i =
      stamped_by (omega (arith, h, i))
      (λ n stamp l a. subst (λ opens. IsAbove n stamp opens) (sym (ap (map (λ (o : OpenElement H). stamp_of node o)) e ∙ map-append (λ (o : OpenElement H). stamp_of node o) (values old.elements) (x ∷ [])))
      (above_pushed n stamp (stamps_of node old) (stamp_of node x) (omega (arith, l, h)) a))

  pub stamped_removed : (place : ℕ) → values new.elements ≡ take place (values old.elements) ++ drop (place + 1) (values old.elements) → new.last ≡ old.last → AreStamped node old entries → AreStamped node new entries
  stamped_removed place e h =
      let view = λ (o : OpenElement H). stamp_of node o in
      let items = values old.elements in
      let one_more : place + 1 ≡ suc place = omega arith in
      let parts : take place (map view items) ++ drop (suc place) (map view items) ≡ map view (values new.elements) =
      ap (λ z. z ++ drop (suc place) (map view items)) (take-map view place items)
      ∙ ap (λ z. map view (take place items) ++ z) (drop-map view (suc place) items)
      ∙ sym (map-append view (take place items) (drop (suc place) items))
      ∙ ap (λ k. map view (take place items ++ drop k items)) (sym one_more)
      ∙ ap (map view) (sym e) in
      stamped_by (omega (arith, h)) (λ n stamp l a. subst (λ opens. IsAbove n stamp opens) parts (above_removed n stamp place (stamps_of node old) a))

  -- some stand where others stood
  pub stamped_replaced : (first last : ℕ) (b : OpenStamp) (ms : List OpenStamp) → first ≤ last → last < length (stamps_of node old) → b ≡ get_or (stamps_of node old) last b → All (λ (m : OpenStamp). m.stamp ≡ b.stamp) ms
      → stamps_of node new ≡ take first (stamps_of node old) ++ (ms ++ drop (suc last) (stamps_of node old)) → new.last ≡ old.last
      → All (λ (entry : FormatEntry (Listed H)). MayStandBelow node (drop last (stamps_of node old)) (map node_in ms) entry) entries → AreStamped node old entries → AreStamped node new entries
  unfolding AreStamped
  stamped_replaced first last b ms h l e same is top may s = λ k d i. one (get_or entries k d) (may k d i) (s k d i)
    where
      one : (entry : FormatEntry (Listed H)) → MayStandBelow node (drop last (stamps_of node old)) (map node_in ms) entry → IsStamped node (stamps_of node old) old.last entry → IsStamped node (stamps_of node new) new.last entry
      one (Element listed tag) m k = (omega (arith, k.0, top), subst (λ opens. IsAbove (node listed.handle) listed.stamp opens) (sym is) (above_replaced (node listed.handle) listed.stamp b first last (stamps_of node old) ms h l e same m k.1))
      one Marker m k = tt

-- an element is put onto the list with a stamp that is right
pub is_stamped : {H : Type 0} (node : H → ℕ) (open_elems : OpenElements H) (entries : List (FormatEntry (Listed H))) (k : ℕ) (d : FormatEntry (Listed H)) → k < length entries → AreStamped node open_elems entries
    → IsStamped node (stamps_of node open_elems) open_elems.last (get_or entries k d)
unfolding AreStamped
is_stamped node open_elems entries k d h s = s k d h

-- an element that is above all that are lower isn't open at such a one, nor below
pub not_below : {H : Type 0} (node : H → ℕ) (items : List (OpenElement H)) (place n since : ℕ) (x : OpenElement H) → place < length items → x ≡ get_or items place x → x.stamp < since
    → IsAbove n since (map (λ (o : OpenElement H). stamp_of node o) items) → is_in n (reverse (map (open_node node) (take (place + 1) items))) ≡ false
not_below {H} node items place n since x h e low above =
    let view = λ (o : OpenElement H). stamp_of node o in
    let one_more : place + 1 ≡ suc place = omega arith in
    let nodes : map (open_node node) (take (place + 1) items) ≡ map node_in (take (suc place) (map view items)) =
    ap (λ k. map (open_node node) (take k items)) one_more ∙ sym (map-map node_in view (take (suc place) items)) ∙ ap (map node_in) (sym (take-map view (suc place) items)) in
    let there : place < length (map view items) = omega (arith, h, length-map items view) in
    let one : view x ≡ get_or (map view items) place (view x) = ap view e ∙ sym (get_or-map view items place x (view x) h) in
    is_in_false n (reverse (map (open_node node) (take (place + 1) items))) (λ i. below_lower n since place (map view items) (view x) there one low above
    (subst (IsIn n) nodes (subst (IsIn n) (reverse-reverse (map (open_node node) (take (place + 1) items))) (in_reverse n (reverse (map (open_node node) (take (place + 1) items))) i))))

-- the nodes of these, as the stack has them
pub nodes_in : {H : Type 0} (node : H → ℕ) (items : List (OpenElement H)) → map node_in (map (λ (o : OpenElement H). stamp_of node o) items) ≡ map (open_node node) items
nodes_in {H} node items = map-map node_in (λ (o : OpenElement H). stamp_of node o) items

-- the current node is above all that are lower
pub above_current : {H : Type 0} (node : H → ℕ) (items : List (OpenElement H)) (x : OpenElement H) (stamp : ℕ) → Some x ≡ slice_get items (length items - 1) → stamp ≤ x.stamp → Distinct (reverse (map (open_node node) items))
    → IsAbove (node x.handle) stamp (map (λ (o : OpenElement H). stamp_of node o) items)
above_current {H} node items x stamp e h distinct =
    let view = λ (o : OpenElement H). stamp_of node o in
    let r = last_split items x e in
    let n = node x.handle in
    let apart : Distinct (n ∷ reverse (map (open_node node) r.0)) = subst Distinct (seen_pushed (open_node node) r.0 items x r.1) distinct in
    let out : ¬ (IsIn n (map node_in (map view r.0))) = λ i. apart n (inl (refl, in_reverse n (map (open_node node) r.0) (subst (IsIn n) (nodes_in node r.0) i))) in
    subst (IsAbove n stamp) (sym (ap (map view) r.1 ∙ map-append view r.0 (x ∷ []))) (above_top n stamp (map view r.0) (view x) h out)

-- where an element is open and stands below a place, no stamp from there on is lower
pub above_under : {H : Type 0} (node : H → ℕ) (items : List (OpenElement H)) (n stamp place up : ℕ) (older : List ℕ) → reverse (map (open_node node) (take (place + 1) items)) ≡ n ∷ older → place ≤ up
    → IsAbove n stamp (map (λ (o : OpenElement H). stamp_of node o) items) → NoneLower stamp (drop up (map (λ (o : OpenElement H). stamp_of node o) items))
above_under {H} node items n stamp place up older e h a = λ k d l.
    let view = λ (o : OpenElement H). stamp_of node o in
    let inside : place < length items = omega (arith, l, h, length-drop up (map view items), length-map items view) in
    let one = there items place inside in
    let first : node one.0.handle ∷ reverse (map (open_node node) (take place items)) ≡ n ∷ older = sym (stack_step (open_node node) items place one.0 inside one.1) ∙ e in
    let same : node one.0.handle ≡ n = cc in
    above_at n stamp place up (map view items) (view one.0) (omega (arith, inside, length-map items view)) (ap view one.1 ∙ sym (get_or-map view items place one.0 (view one.0) inside)) same h a k d l
