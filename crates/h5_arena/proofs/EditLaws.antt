-- Attributes that are set and removed.
use Rattle.std.proofs.Common.{◌≡◌, ◌≢◌, ◌∙◌, ℕ, ◌<◌, ◌≤◌, Bool, true, false, ◌&&◌, cond, not, List, [], ◌∷◌, ◌++◌, ap, arith, get_or, is_some, length, refl, subst, sym}
use Rattle.std.specs.Prelude.{◌==◌, Option, None, Some, nat_lt, slice_get}
use Rattle.std.specs.Cmp.Lexicographic.{same_text}
use Rattle.std.specs.List.{filter, items_where_true, list_any, position, position_or_len}
use Rattle.std.specs.List.Retain.{IsFiltered, ReturnsInTurn}
use Rattle.std.proofs.Math.ListN.{set}
use Rattle.std.proofs.lemmas.Bool.{eq-eqb}
use Rattle.std.proofs.lemmas.Bool.Decides.{nat_tests}
use Rattle.std.proofs.lemmas.Cmp.{nat_list_eq_equiv}
use Rattle.std.proofs.lemmas.List.{map-append}
use Rattle.std.proofs.lemmas.List.Quantifiers.{position-Some}
use Prim.Native.Nat.{zero, suc}
use Rattle.h5_names.specs.declared.qualified.Attribute.{Attribute}
use Rattle.h5_names.specs.AttributeText.{AttributeText, attribute_text, attribute_texts, is_same_text}
use Rattle.h5_interface.specs.Forest.{Forest, IsNode, Node, attrs_of}
use Rattle.h5_interface.specs.Seen.{Seen}
use Rattle.h5_interface.specs.declared.marks.QuirksMode.{QuirksMode}
use Rattle.h5_interface.proofs.RehangLaws.{loosened_keeps, none_chosen, shape_rehangs}
use Rattle.h5_arena.specs.ArenaModel.{ArenaView, HasNotes, IsArena, KeepsErrors, seen_of, value_of}
use Rattle.h5_arena.specs.AttributeNames.{names_at}
use Rattle.h5_arena.specs.Edits.{edit_attrs, is_named, with_value, without_named}
use Rattle.h5_arena.specs.declared.attribute_names.AttributeNames.{AttributeNames}
use Rattle.h5_arena.proofs.CallConditions.{some_same}
use Rattle.h5_arena.proofs.NoteLaws.{notes_attrs_edited, notes_kept}

-- a text is the same as itself
same_itself : (t : List ℕ) → is_same_text t t ≡ true
same_itself t = nat_list_eq_equiv.refl t

-- the value that was set is read
pub value_set : (local value : List ℕ) (attrs : List AttributeText) → value_of local (with_value local value attrs) ≡ Some value
value_set local value [] = rw (same_itself local) refl
value_set local value (a ∷ attrs) = at (value_set local value attrs) (is_named local a) refl
  where
    at : (value_of local (with_value local value attrs) ≡ Some value) → (b : Bool) → is_named local a ≡ b → value_of local (with_value local value (a ∷ attrs)) ≡ Some value
    at h' true e = rw (e, e) refl
    at h' false e = rw (e, e) h'

-- a removed attribute isn't there
pub value_gone : (local : List ℕ) (attrs : List AttributeText) → value_of local (without_named local attrs) ≡ None
value_gone local [] = refl
value_gone local (a ∷ attrs) = at (value_gone local attrs) (is_named local a) refl
  where
    at : (value_of local (without_named local attrs) ≡ None) → (b : Bool) → is_named local a ≡ b → value_of local (without_named local (a ∷ attrs)) ≡ None
    at h' true e = rw e h'
    at h' false e = rw (e, e) h'

-- an attribute has one name
right_true : (x y : Bool) → (x && y) ≡ true → y ≡ true
right_true true y e = e
right_true false y e = cc

named_apart : (local other : List ℕ) (a : AttributeText) → other ≢ local → is_named local a ≡ true → is_named other a ≡ false
named_apart local other a apart e = at (is_named other a) refl
  where
    at : (b : Bool) → is_named other a ≡ b → is_named other a ≡ false
    at true w =
        let is = same_text a.name.local local (sym (right_true (is_same_text a.name.ns []) (is_same_text a.name.local local) e)) in
        let was = same_text a.name.local other (sym (right_true (is_same_text a.name.ns []) (is_same_text a.name.local other) w)) in
        absurd (apart (sym was ∙ is))
    at false w = w

other_new : (local other value : List ℕ) → other ≢ local → value_of other (with_value local value []) ≡ None
other_new local other value apart = at (is_same_text local other) refl
  where
    at : (b : Bool) → is_same_text local other ≡ b → value_of other (with_value local value []) ≡ None
    at true e = absurd (apart (sym (same_text local other (sym e))))
    at false e = rw e refl

-- the values of others are unchanged if one is set
pub others_stay : (local other value : List ℕ) (attrs : List AttributeText) → other ≢ local → value_of other (with_value local value attrs) ≡ value_of other attrs
others_stay local other value [] apart = other_new local other value apart
others_stay local other value (a ∷ attrs) apart = at (others_stay local other value attrs apart) (is_named local a) refl (is_named other a) refl
  where
    at : (value_of other (with_value local value attrs) ≡ value_of other attrs) → (b : Bool) → is_named local a ≡ b → (o : Bool) → is_named other a ≡ o → value_of other (with_value local value (a ∷ attrs)) ≡ value_of other (a ∷ attrs)
    at h true e true w = absurd (let v : true ≡ false = sym w ∙ named_apart local other a apart e in cc)
    at h true e false w = rw (e, w) refl
    at h false e true w = rw (e, w) refl
    at h false e false w = rw (e, w) h

-- and if one is removed
pub others_left : (local other : List ℕ) (attrs : List AttributeText) → other ≢ local → value_of other (without_named local attrs) ≡ value_of other attrs
others_left local other [] apart = refl
others_left local other (a ∷ attrs) apart = at (others_left local other attrs apart) (is_named local a) refl (is_named other a) refl
  where
    at : (value_of other (without_named local attrs) ≡ value_of other attrs) → (b : Bool) → is_named local a ≡ b → (o : Bool) → is_named other a ≡ o → value_of other (without_named local (a ∷ attrs)) ≡ value_of other (a ∷ attrs)
    at h true e true w = absurd (let v : true ≡ false = sym w ∙ named_apart local other a apart e in cc)
    at h true e false w = rw (e, w) h
    at h false e true w = rw (e, w) refl
    at h false e false w = rw (e, w) h

-- there is a value if there is an attribute
pub value_there : (local : List ℕ) (attrs : List AttributeText) → list_any (is_named local) attrs ≡ is_some (value_of local attrs)
value_there local [] = refl
value_there local (a ∷ attrs) = at (value_there local attrs) (is_named local a) refl
  where
    at : (list_any (is_named local) attrs ≡ is_some (value_of local attrs)) → (b : Bool) → is_named local a ≡ b → list_any (is_named local) (a ∷ attrs) ≡ is_some (value_of local (a ∷ attrs))
    at h' true e = rw e refl
    at h' false e = rw e h'

-- the first of this name is written
set_first : (local value : List ℕ) (xs : List Attribute) (i : ℕ) (x y : Attribute) → i < length xs → is_named local (attribute_text (get_or xs i x)) ≡ true → ((k : ℕ) → k < i → is_named local (attribute_text (get_or xs k x)) ≡ false)
    → attribute_text y ≡ record (attribute_text (get_or xs i x)) { value = value } → attribute_texts (set xs i y) ≡ with_value local value (attribute_texts xs)
set_first local value [] i x y within is before e = absurd (omega arith)
set_first local value (z ∷ xs) zero x y within is before e = rw is (ap (λ a. a ∷ attribute_texts xs) e)
set_first local value (z ∷ xs) (suc i) x y within is before e =
    rw (before 0 (omega arith)) (ap (λ rest. attribute_text z ∷ rest) (set_first local value xs i x y (omega arith) is (λ k h. before (suc k) (omega arith)) e))

pub first_set : (local value : List ℕ) (xs : List Attribute) (i : ℕ) (x y : Attribute) → position (λ a. is_named local (attribute_text a)) xs ≡ Some i → x ≡ get_or xs i x → attribute_text y ≡ record (attribute_text x) { value = value }
    → attribute_texts (set xs i y) ≡ with_value local value (attribute_texts xs)
first_set local value xs i x y found is e =
    let at = position-Some (λ a. is_named local (attribute_text a)) xs i x found in
    set_first local value xs i x y at.0 at.1 at.2 (e ∙ ap (λ z. record (attribute_text z) { value = value }) is)

-- if no attribute has this name, one is added at the end
none_first : (p : Attribute → Bool) (xs : List Attribute) → length xs ≤ position_or_len p xs → list_any p xs ≡ false
none_first p [] h = refl
none_first p (x ∷ xs) h = at (none_first p xs) (p x) refl
  where
    at : (length xs ≤ position_or_len p xs → list_any p xs ≡ false) → (b : Bool) → p x ≡ b → list_any p (x ∷ xs) ≡ false
    at k true e = absurd (let w = (rw e at h) in omega (arith, w))
    at k false e = rw e (k (let w = (rw e at h) in omega (arith, w)))

none_found : (p : Attribute → Bool) (xs : List Attribute) → position p xs ≡ None → list_any p xs ≡ false
none_found p xs e = at (nat_lt (position_or_len p xs) (length xs)) refl
  where
    at : (b : Bool) → nat_lt (position_or_len p xs) (length xs) ≡ b → list_any p xs ≡ false
    at true w = let v = (rw w at e) in cc
    at false w = none_first p xs (grind (arith, nat_tests))

add_last : (local value : List ℕ) (xs : List Attribute) → list_any (λ a. is_named local (attribute_text a)) xs ≡ false → attribute_texts xs ++ with_value local value [] ≡ with_value local value (attribute_texts xs)
add_last local value [] h = refl
add_last local value (x ∷ xs) h = at (add_last local value xs) (is_named local (attribute_text x)) refl
  where
    at : (list_any (λ a. is_named local (attribute_text a)) xs ≡ false → attribute_texts xs ++ with_value local value [] ≡ with_value local value (attribute_texts xs)) → (b : Bool) → is_named local (attribute_text x) ≡ b → attribute_texts (x ∷ xs) ++ with_value local value [] ≡ with_value local value (attribute_texts (x ∷ xs))
    at k true e = let v = (rw e at h) in cc
    at k false e = rw e (ap (λ rest. attribute_text x ∷ rest) (k (rw e at h)))

pub last_set : (local value : List ℕ) (xs ys : List Attribute) (y : Attribute) → position (λ a. is_named local (attribute_text a)) xs ≡ None → ys ≡ xs ++ y ∷ [] → attribute_text y ∷ [] ≡ with_value local value []
    → attribute_texts ys ≡ with_value local value (attribute_texts xs)
last_set local value xs ys y none added e =
    ap attribute_texts added ∙ map-append attribute_text xs (y ∷ []) ∙ ap (λ rest. attribute_texts xs ++ rest) e
    ∙ add_last local value xs (none_found (λ a. is_named local (attribute_text a)) xs none)

-- the texts of those that stay
pub texts_without : (local : List ℕ) (xs : List Attribute) → attribute_texts (filter (λ a. not (is_named local (attribute_text a))) xs) ≡ without_named local (attribute_texts xs)
texts_without local [] = refl
texts_without local (x ∷ xs) = at (texts_without local xs) (is_named local (attribute_text x)) refl
  where
    at : (attribute_texts (filter (λ a. not (is_named local (attribute_text a))) xs) ≡ without_named local (attribute_texts xs)) → (b : Bool) → is_named local (attribute_text x) ≡ b → attribute_texts (filter (λ a. not (is_named local (attribute_text a))) (x ∷ xs)) ≡ without_named local (attribute_texts (x ∷ xs))
    at h' true e = rw e h'
    at h' false e = rw e (ap (λ rest. attribute_text x ∷ rest) h')

-- the attributes of the node that is edited
pub attrs_edited : (f g : Forest) (n : ℕ) (edit : List AttributeText → List AttributeText) → g ≡ edit_attrs n edit f → IsNode f n → attrs_of g n ≡ edit (attrs_of f n)
attrs_edited f g n edit e there = ap (λ h. attrs_of h n) e ∙ at (f.node n) refl
  where
    at : (o : Option Node) → f.node n ≡ o → attrs_of (edit_attrs n edit f) n ≡ edit (attrs_of f n)
    at None w = absurd (there w)
    at (Some d) w = rw (w, eq-eqb n n refl) refl

-- the attributes of one node change, and no names are kept of it
pub edit_attrs_keeps : (names news : AttributeNames) (f : Forest) (t : ℕ) (edit : List AttributeText → List AttributeText) → IsNode f t → names_at news t ≡ None → ((n : ℕ) → (n == t) ≡ false → names_at news n ≡ names_at names n) → IsArena names f → IsArena news (edit_attrs t edit f)
edit_attrs_keeps names news f t edit there none others k = record {
  is_forest = loosened_keeps f (edit_attrs t edit f) none_chosen k.is_forest (shape_rehangs f _ k.is_forest (record { kind = λ n d. refl; children = λ n d. refl; contents = λ n d. refl; parent = λ n d. refl }));
  notes = at (f.node t) refl;
}
  where
    at : (o : Option Node) → f.node t ≡ o → HasNotes news (edit_attrs t edit f)
    at None w = absurd (there w)
    at (Some d) w = notes_attrs_edited names news f t edit (edit d.attrs) d w refl (λ found e. absurd (let v : None ≡ Some found = sym none ∙ e in cc)) others k.notes

-- no names are kept of one node any longer
pub forget_keeps : (names news : AttributeNames) (f : Forest) (t : ℕ) → IsNode f t → names_at news t ≡ None → ((n : ℕ) → (n == t) ≡ false → names_at news n ≡ names_at names n) → IsArena names f → IsArena news f
forget_keeps names news f t there none others k = record { is_forest = k.is_forest; notes = at (f.node t) refl }
  where
    at : (o : Option Node) → f.node t ≡ o → HasNotes news f
    at None w = absurd (there w)
    at (Some d) w = notes_kept names news f t d.attrs d w refl (λ found e. absurd (let v : None ≡ Some found = sym none ∙ e in cc)) others k.notes

-- an arena whose nodes are the same
pub same_view : (ns ms : List Node) (q : QuirksMode) (errors : List (List ℕ)) (lost keeps : Bool) → ns ≡ ms → ◌≡◌ {A = ArenaView} (record { nodes = ns; quirks = q; errors = errors; errors_lost = lost; keeps_errors = keeps }) (record { nodes = ms; quirks = q; errors = errors; errors_lost = lost; keeps_errors = keeps })
same_view ns ms q errors lost keeps e = ap (λ xs. record { nodes = xs; quirks = q; errors = errors; errors_lost = lost; keeps_errors = keeps }) e

same_nodes : (ns ms : List Node) → ((n : ℕ) → slice_get ns n ≡ slice_get ms n) → ns ≡ ms
same_nodes [] [] h = refl
same_nodes [] (m ∷ ms) h = let w = h 0 in cc
same_nodes (n ∷ ns) [] h = let w = h 0 in cc
same_nodes (n ∷ ns) (m ∷ ms) h = λ i. some_same n m (h 0) i ∷ same_nodes ns ms (λ k. h (suc k)) i

-- so is one of which the same is seen, and that keeps its errors
pub same_from_seen : (a b : ArenaView) → seen_of a ≡ seen_of b → KeepsErrors b a → a ≡ b
same_from_seen a b e k = λ i. record {
  nodes = same_nodes a.nodes b.nodes (λ n. ap (λ (s : Seen). s.forest.node n) e) i;
  quirks = ap (λ (s : Seen). s.quirks) e i;
  errors = k.0 i;
  errors_lost = k.1 i;
  keeps_errors = k.2 i;
}

-- if a test changes no state, the items that it keeps are those that pass it
module _ {X F : Type 0} (R : F → X → Bool → F → Type 0) (test : X → Bool) (f : F) (tells : (x : X) (b : Bool) (g : F) → R f x b g → (b ≡ test x) × (g ≡ f)) where
  chosen_pass : (x : X) (xs kept : List X) (b : Bool) (bs : List Bool) → b ≡ test x → items_where_true bs xs ≡ kept → items_where_true (b ∷ bs) (x ∷ xs) ≡ cond (test x) (x ∷ kept) kept
  chosen_pass x xs kept true bs e h = rw (← e) (ap (λ rest. x ∷ rest) h)
  chosen_pass x xs kept false bs e h = rw (← e) h

  chosen_all : (bs : List Bool) (xs : List X) (q : F) → length bs ≡ length xs → ReturnsInTurn R f bs xs q → items_where_true bs xs ≡ filter test xs
  chosen_all [] [] q e t = refl
  chosen_all [] (x ∷ xs) q e t = absurd (omega arith)
  chosen_all (b ∷ bs) [] q e t = absurd t
  chosen_all (b ∷ bs) (x ∷ xs) q e t =
      let one = tells x b t.0 t.1 in
      chosen_pass x xs (filter test xs) b bs one.0 (chosen_all bs xs q (omega arith) (subst (λ (g : F). ReturnsInTurn R g bs xs q) one.1 t.2))

  pub kept_pass : (xs ys : List X) → IsFiltered R f xs ys → ys ≡ filter test xs
  kept_pass xs ys k = k.4 ∙ chosen_all k.0 xs k.1 k.2 k.3
