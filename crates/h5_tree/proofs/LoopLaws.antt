-- The steps of the loops over a block's nodes.
use Rattle.std.proofs.Common.{◌≡◌, ◌≢◌, ◌∙◌, ◌⊎◌, ℕ, ◌+◌, ◌<◌, ◌≤◌, Bool, true, false, ◌&&◌, ◌||◌, cond, List, [], ◌∷◌, ◌++◌, ap, append_assoc, arith, inl, inr, refl, subst, sym}
use Rattle.std.specs.Prelude.{◌==◌, nat_lt}
use Rattle.std.proofs.lemmas.Bool.{cases_cond, cases_eq, cases_lt, cond-false, cond-true, eq-eqb, le-ltb, ne_eqb}
use Rattle.std.proofs.lemmas.List.{append-nil}
use Rattle.h5_tree_block.specs.Block.{end_in, kind_in, next_in, nodes_in, nothing, parent_in}
use Rattle.h5_tree_block.specs.Sound.{is_sound}
use Rattle.h5_tree.specs.ElementNumbers.{IsBefore, IsChildOrNone, elements_up_to, elements_from, is_bare_from, elements_between}
use Rattle.h5_tree.proofs.SoundOrder.{IsInOrder, sound_in_order}
use Rattle.h5_tree.proofs.ChildLaws.{next_is_child, bare_from_nothing, bare_from_step, elements_from_nothing, elements_from_step}
use Rattle.h5_tree.proofs.SiblingLaws.{before_ends, before_step}
use Rattle.h5_tree.proofs.DescendantLaws.{between_end, between_fragment, between_other}

one_before : (t : Bool) (x : ℕ) (held more : List ℕ) → (held ++ cond t (x ∷ []) []) ++ more ≡ held ++ cond t (x ∷ more) more
one_before true x held more = append_assoc held (x ∷ []) more
one_before false x held more = ap (λ l. l ++ more) (append-nil held)

-- a step: the remaining elements begin with this one, or don't
step : (t : Bool) (x : ℕ) (held found left more all : List ℕ) → found ≡ held ++ cond t (x ∷ []) [] → left ≡ cond t (x ∷ more) more → held ++ left ≡ all → found ++ more ≡ all
step t x held found left more all is begins was = ap (λ l. l ++ more) is ∙ one_before t x held more ∙ sym (ap (λ l. held ++ l) begins) ∙ was

module _ (b : List ℕ) (sound : is_sound b ≡ true) (small : nodes_in b < 4294967296) where
  in_order : IsInOrder b
  in_order = sound_in_order b sound small

  -- the next sibling fits a word
  pub next_small : (at next : ℕ) → next ≡ next_in b at → next ≤ 4294967295
  next_small at next e = elim (cases_cond (nat_lt (end_in b at) (nodes_in b) && parent_in b (end_in b at) == parent_in b at) (end_in b at) nothing (next_in b at) refl) [
    | inr none ↦ omega (arith, e, none)
    | inl there ↦ elim (cases_lt (end_in b at) (nodes_in b)) [
      | inl lt ↦ omega (arith, e, there, lt)
      | inr past ↦
          let none : next_in b at ≡ nothing = ap (λ t. cond (t && parent_in b (end_in b at) == parent_in b at) (end_in b at) nothing) (le-ltb (end_in b at) (nodes_in b) past) in
          omega (arith, e, none)
    ]
  ]

  pub from_step : (p at next : ℕ) (held found all : List ℕ) → next ≡ next_in b at → at ≢ nothing → found ≡ held ++ cond (kind_in b at == 1) (at ∷ []) []
      → IsChildOrNone b p at × (held ++ elements_from b p at ≡ all) → IsChildOrNone b p next × (found ++ elements_from b p next ≡ all)
  from_step p at next held found all leads some is was = (
    subst (λ x. IsChildOrNone b p x) (sym leads) (next_is_child b in_order p at some was.0),
    ap (λ x. found ++ elements_from b p x) leads
        ∙ step (kind_in b at == 1) at held found (elements_from b p at) (elements_from b p (next_in b at)) all is (elements_from_step b in_order p at some was.0) was.1,
  )

  pub from_end : (p at : ℕ) (held all : List ℕ) → at ≡ nothing → IsChildOrNone b p at × (held ++ elements_from b p at ≡ all) → held ≡ all
  from_end p at held all none was = sym (append-nil held) ∙ sym (ap (λ l. held ++ l) (elements_from_nothing b p at none)) ∙ was.1

  pub before_more : (n at next : ℕ) (held found all : List ℕ) → 0 < n → n < nodes_in b → next ≡ next_in b at → at < n → found ≡ held ++ cond (kind_in b at == 1) (at ∷ []) []
      → IsBefore b (parent_in b n) n at × (held ++ elements_up_to b (parent_in b n) n at ≡ all) → IsBefore b (parent_in b n) n next × (found ++ elements_up_to b (parent_in b n) n next ≡ all)
  before_more n at next held found all after some leads lt is was =
      let one = before_step b in_order n after some at lt was.0 in (
        subst (λ x. IsBefore b (parent_in b n) n x) (sym leads) one.0,
        ap (λ x. found ++ elements_up_to b (parent_in b n) n x) leads
            ∙ step (kind_in b at == 1) at held found (elements_up_to b (parent_in b n) n at) (elements_up_to b (parent_in b n) n (next_in b at)) all is one.1 was.1,
      )

  pub before_all : (n at : ℕ) (held all : List ℕ) → n ≤ at → IsBefore b (parent_in b n) n at × (held ++ elements_up_to b (parent_in b n) n at ≡ all) → held ≡ all
  before_all n at held all le was = sym (append-nil held) ∙ sym (ap (λ l. held ++ l) (before_ends b in_order (parent_in b n) n at le)) ∙ was.1

  pub between_more : (to at next : ℕ) (held found all : List ℕ) → to ≤ nodes_in b → at < to → next ≡ cond (kind_in b at == 11) (end_in b at) (at + 1)
      → found ≡ held ++ cond (kind_in b at == 1) (at ∷ []) [] → held ++ elements_between b at to ≡ all → found ++ elements_between b next to ≡ all
  between_more to at next held found all in_it lt leads is was = elim (cases_eq (kind_in b at) 11) [
    | inl e ↦
        let same : found ≡ held = is ∙ ap (λ l. held ++ l) (cond-false (kind_in b at == 1) (at ∷ []) [] (ne_eqb (kind_in b at) 1 (λ g. omega (arith, e, g)))) ∙ append-nil held in
        let skips : next ≡ end_in b at = leads ∙ cond-true (kind_in b at == 11) (end_in b at) (at + 1) (eq-eqb (kind_in b at) 11 e) in
        ap (λ x. found ++ elements_between b x to) skips ∙ ap (λ l. l ++ elements_between b (end_in b at) to) same
        ∙ sym (ap (λ l. held ++ l) (between_fragment b in_order at to lt in_it e)) ∙ was
    | inr other ↦
        let goes : next ≡ at + 1 = leads ∙ cond-false (kind_in b at == 11) (end_in b at) (at + 1) (ne_eqb (kind_in b at) 11 other) in
        ap (λ x. found ++ elements_between b x to) goes
        ∙ step (kind_in b at == 1) at held found (elements_between b at to) (elements_between b (at + 1) to) all is (between_other b in_order at to lt in_it other) was
  ]

  pub between_all : (to at : ℕ) (held all : List ℕ) → to ≤ at → held ++ elements_between b at to ≡ all → held ≡ all
  between_all to at held all le was = sym (append-nil held) ∙ sym (ap (λ l. held ++ l) (between_end b in_order at to le)) ∙ was

  pub bare_step : (p at next k : ℕ) (all : Bool) → k ≡ kind_in b at → k ≢ 1 → k ≢ 3 → next ≡ next_in b at → at ≢ nothing → IsChildOrNone b p at × (is_bare_from b p at ≡ all) → IsChildOrNone b p next × (is_bare_from b p next ≡ all)
  bare_step p at next k all is no_element no_text leads some was =
      let test : (kind_in b at == 1 || kind_in b at == 3) ≡ false =
      ap (λ x. x == 1 || x == 3) (sym is) ∙ ap (λ t. t || k == 3) (ne_eqb k 1 no_element) ∙ ne_eqb k 3 no_text in (
        subst (λ x. IsChildOrNone b p x) (sym leads) (next_is_child b in_order p at some was.0),
        ap (is_bare_from b p) leads ∙ sym (bare_from_step b in_order p at some was.0 ∙ cond-false (kind_in b at == 1 || kind_in b at == 3) false (is_bare_from b p (next_in b at)) test) ∙ was.1,
      )

  pub bare_found : (p at k : ℕ) (all : Bool) → k ≡ kind_in b at → (k ≡ 1) ⊎ (k ≡ 3) → at ≢ nothing → IsChildOrNone b p at × (is_bare_from b p at ≡ all) → false ≡ all
  bare_found p at k all is found some was =
      let test : (kind_in b at == 1 || kind_in b at == 3) ≡ true =
      ap (λ x. x == 1 || x == 3) (sym is) ∙ elim found [ inl e ↦ ap (λ x. x == 1 || x == 3) e | inr e ↦ ap (λ x. x == 1 || x == 3) e ] in
      sym (bare_from_step b in_order p at some was.0 ∙ cond-true (kind_in b at == 1 || kind_in b at == 3) false (is_bare_from b p (next_in b at)) test) ∙ was.1

  pub bare_end : (p at : ℕ) (all : Bool) → at ≡ nothing → IsChildOrNone b p at × (is_bare_from b p at ≡ all) → true ≡ all
  bare_end p at all none was = sym (bare_from_nothing b in_order p at none) ∙ was.1
