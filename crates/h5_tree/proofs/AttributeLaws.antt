-- The first row of an element with a name is the first attribute with that name in the forest.
use Rattle.std.proofs.Common.{◌≡◌, ◌≢◌, ◌∙◌, ℕ, zero, suc, ◌+◌, ◌<◌, Bool, true, false, ◌&&◌, cond, List, [], ◌∷◌, ◌++◌, ap, arith, inl, inr, refl, sym}
use Rattle.std.specs.Prelude.{◌==◌, None, Option, Some}
use Rattle.std.specs.List.{find}
use Rattle.std.specs.Option.{option_map, option_map_or}
use Rattle.std.proofs.Math.Nat.{eq-or-lt_of_le}
use Rattle.std.proofs.lemmas.Bool.{cases_Bool, cond-false, cond-true, eq-eqb, ne_eqb}
use Rattle.h5_names.specs.AttributeText.{AttributeText, is_same_text}
use Rattle.h5_interface.specs.Forest.{Kind, Node, attrs_of}
use Rattle.h5_tree_block.specs.Block.{kind_in, namespace_in, row_count_in}
use Rattle.h5_tree.specs.BlockForest.{forest_in, kind_at, node_of_some}
use Rattle.h5_tree.specs.Elements.{value_in}
use Rattle.h5_tree_block.specs.Read.{attribute_of, attributes_below, attributes_of, local_of, name_of, namespace_named, row_name_of, value_of}
use Rattle.h5_tree.proofs.NodeLaws.{kind_1}

find_later : (p : AttributeText → Bool) (xs ys : List AttributeText) → find p xs ≡ None → find p (xs ++ ys) ≡ find p ys
find_later p [] ys e = refl
find_later p (x ∷ xs) ys e = elim (cases_Bool (p x)) [
  | inl g ↦ let w : Some x ≡ None = sym (ap (λ t. cond t (Some x) (find p xs)) g) ∙ e in cc
  | inr g ↦
      ap (λ t. cond t (Some x) (find p (xs ++ ys))) g
      ∙ find_later p xs ys (sym (ap (λ t. cond t (Some x) (find p xs)) g) ∙ e)
]

find_before : (p : AttributeText → Bool) (xs ys : List AttributeText) (a : AttributeText) → find p xs ≡ Some a → find p (xs ++ ys) ≡ Some a
find_before p [] ys a e = let w : None ≡ Some a = e in cc
find_before p (x ∷ xs) ys a e = elim (cases_Bool (p x)) [
  | inl g ↦ ap (λ t. cond t (Some x) (find p (xs ++ ys))) g ∙ (sym (ap (λ t. cond t (Some x) (find p xs)) g) ∙ e)
  | inr g ↦ ap (λ t. cond t (Some x) (find p (xs ++ ys))) g ∙ find_before p xs ys a (sym (ap (λ t. cond t (Some x) (find p xs)) g) ∙ e)
]

module _ (b : List ℕ) (n : ℕ) (p : AttributeText → Bool) where
  one_passed : (i : ℕ) → p (attribute_of b n i) ≡ false → find p (attributes_below b n i) ≡ None → find p (attributes_below b n (suc i)) ≡ None
  one_passed i no_match none = find_later p (attributes_below b n i) (attribute_of b n i ∷ []) none ∙ ap (λ t. cond t (Some (attribute_of b n i)) None) no_match

  one_found : (i : ℕ) → p (attribute_of b n i) ≡ true → find p (attributes_below b n i) ≡ None → find p (attributes_below b n (suc i)) ≡ Some (attribute_of b n i)
  one_found i match none = find_later p (attributes_below b n i) (attribute_of b n i ∷ []) none ∙ ap (λ t. cond t (Some (attribute_of b n i)) None) match

  stays_found : (i total : ℕ) → i < total → find p (attributes_below b n (suc i)) ≡ Some (attribute_of b n i) → find p (attributes_below b n total) ≡ Some (attribute_of b n i)
  stays_found i zero lt found = absurd (omega (arith, lt))
  stays_found i (suc total) lt found = elim (eq-or-lt_of_le {n = i} {m = total} (omega (arith, lt))) [
    | inl same ↦ sym (ap (λ k. find p (attributes_below b n (suc k))) same) ∙ found
    | inr less ↦ find_before p (attributes_below b n total) (attribute_of b n total ∷ []) (attribute_of b n i) (stays_found i total less found)
  ]

module _ (b : List ℕ) (n : ℕ) (ns local : List ℕ) where
  -- true if an attribute has this namespace and local name
  abbrev has_it : AttributeText → Bool
  has_it a = is_same_text a.name.ns ns && is_same_text a.name.local local

  -- and true if a row has them
  abbrev row_has_it : (index : ℕ) → Bool
  row_has_it i = is_same_text (namespace_named (namespace_in b (row_name_of b n i))) ns && is_same_text (local_of b (row_name_of b n i)) local

  row_test : (i : ℕ) → has_it (attribute_of b n i) ≡ row_has_it i
  unfolding attribute_of name_of
  row_test i = refl

  row_value : (i : ℕ) → (attribute_of b n i).value ≡ value_of b n i
  unfolding attribute_of
  row_value i = refl

  -- no row before this index has the name
  abbrev pub IsNotBelow : (index : ℕ) → Type 0
  IsNotBelow i = find has_it (attributes_below b n i) ≡ None

  pub row_passed : (i : ℕ) → row_has_it i ≡ false → IsNotBelow i → IsNotBelow (i + 1)
  row_passed i no_match none =
      let e : i + 1 ≡ suc i = omega arith in
      ap (λ k. find has_it (attributes_below b n k)) e ∙ one_passed b n has_it i (row_test i ∙ no_match) none

  pub row_found : (i : ℕ) → row_has_it i ≡ true → i < row_count_in b n → IsNotBelow i → option_map (λ (a : AttributeText). a.value) (find has_it (attributes_of b n)) ≡ Some (value_of b n i)
  row_found i match lt none =
      ap (option_map (λ (a : AttributeText). a.value)) (stays_found b n has_it i (row_count_in b n) lt (one_found b n has_it i (row_test i ∙ match) none))
      ∙ ap {B = Option (List ℕ)} Some (row_value i)

  pub row_asked : (i m : ℕ) (made t : Bool) → m ≡ row_name_of b n i → made ≡ (is_same_text (namespace_named (namespace_in b m)) ns && is_same_text (local_of b m) local) → made ≡ t → row_has_it i ≡ t
  row_asked i m made t e is g = sym (is ∙ ap (λ x. is_same_text (namespace_named (namespace_in b x)) ns && is_same_text (local_of b x) local) e) ∙ g

  abbrev attributes_as : Option Kind → List AttributeText
  attributes_as k = option_map_or {U = List AttributeText} (λ (d : Node). d.attrs) (node_of_some b n k) []

  -- an element's attributes are its rows; any other number has none
  pub attributes_some : kind_in b n ≡ 1 → value_in ns local (attrs_of (forest_in b) n) ≡ option_map (λ (a : AttributeText). a.value) (find has_it (attributes_of b n))
  attributes_some e =
      ap (value_in ns local) (ap attributes_as (kind_1 b n e) ∙ cond-true (kind_in b n == 1) (attributes_of b n) [] (eq-eqb (kind_in b n) 1 e))

  none_as : (k : Option Kind) → kind_in b n ≢ 1 → attributes_as k ≡ []
  none_as None other = refl
  none_as (Some k) other = cond-false (kind_in b n == 1) (attributes_of b n) [] (ne_eqb (kind_in b n) 1 other)

  pub attributes_none : kind_in b n ≢ 1 → value_in ns local (attrs_of (forest_in b) n) ≡ None
  attributes_none other = ap (value_in ns local) (none_as (kind_at b n) other)

  -- the result of a search through all rows
  pub rows_found : (i : ℕ) → kind_in b n ≡ 1 → row_has_it i ≡ true → i < row_count_in b n → IsNotBelow i → Some (value_of b n i) ≡ value_in ns local (attrs_of (forest_in b) n)
  rows_found i k match lt none = sym (attributes_some k ∙ row_found i match lt none)

  pub rows_all : (i : ℕ) → kind_in b n ≡ 1 → i ≡ row_count_in b n → IsNotBelow i → None ≡ value_in ns local (attrs_of (forest_in b) n)
  rows_all i k e none = sym (attributes_some k ∙ ap (option_map (λ (a : AttributeText). a.value)) (sym (ap (λ c. find has_it (attributes_below b n c)) e) ∙ none))
