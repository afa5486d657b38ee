-- The ancestors of a node that are elements, collected one by one.
use Rattle.std.proofs.Common.{◌≡◌, ◌∙◌, ℕ, suc, ◌+◌, ◌-◌, ◌<◌, Bool, true, false, List, [], ◌∷◌, ◌++◌, None, Some, ap, append_assoc, arith, cond, map, sym}
use Rattle.std.specs.Option.{option_map_or}
use Rattle.std.proofs.lemmas.Bool.{cond-false, cond-true}
use Rattle.std.proofs.lemmas.List.{append-nil, map-append}
use Rattle.h5_interface.specs.Forest.{Forest}
use Rattle.h5_arena.specs.Kin.{ancestors_within, tree_parent}
use Rattle.h5_tree.specs.Elements.{elements, is_element}

-- what was found, with one more if a test passed
pub grown : {N : Type 0} (t : Bool) (x : N) (held found : List N) → t ≡ true → found ≡ held ++ x ∷ [] → found ≡ held ++ cond t (x ∷ []) []
grown t x held found e is = is ∙ sym (ap (λ l. held ++ l) (cond-true t (x ∷ []) [] e))

pub stayed : {N : Type 0} (t : Bool) (x : N) (held found : List N) → t ≡ false → found ≡ held → found ≡ held ++ cond t (x ∷ []) []
stayed t x held found e is = is ∙ sym (append-nil held) ∙ sym (ap (λ l. held ++ l) (cond-false t (x ∷ []) [] e))

module _ (f : Forest) where
  first_above : (levels step n p : ℕ) → step < levels → tree_parent f n ≡ Some p
      → elements f (ancestors_within (levels - step) f n) ≡ cond (is_element f p) (p ∷ elements f (ancestors_within (levels - (step + 1)) f p)) (elements f (ancestors_within (levels - (step + 1)) f p))
  first_above levels step n p lt e =
      let k : levels - step ≡ suc (levels - (step + 1)) = omega (arith, lt) in
      ap (λ m. elements f (ancestors_within m f n)) k
      ∙ ap (λ o. elements f (option_map_or (λ q. q ∷ ancestors_within (levels - (step + 1)) f q) o [])) e

  one_more : {N : Type 0} (place : N → ℕ) (t : Bool) (x : N) (held : List N) (more : List ℕ) → map place (held ++ cond t (x ∷ []) []) ++ more ≡ map place held ++ cond t (place x ∷ more) more
  one_more place true x held more = ap (λ l. l ++ more) (map-append place held (x ∷ [])) ∙ append_assoc (map place held) (place x ∷ []) more
  one_more place false x held more = ap (λ l. map place l ++ more) (append-nil held)

  pub above_more : {N : Type 0} (place : N → ℕ) (levels step n : ℕ) (x : N) (held found : List N) (t : Bool) (total : List ℕ) → step < levels → tree_parent f n ≡ Some (place x) → t ≡ is_element f (place x) → found ≡ held ++ cond t (x ∷ []) []
      → map place held ++ elements f (ancestors_within (levels - step) f n) ≡ total → map place found ++ elements f (ancestors_within (levels - (step + 1)) f (place x)) ≡ total
  above_more place levels step n x held found t total lt up test is was =
      let more = elements f (ancestors_within (levels - (step + 1)) f (place x)) in
      ap (λ l. map place l ++ more) is ∙ one_more place t x held more
      ∙ ap (λ v. map place held ++ cond v (place x ∷ more) more) test
      ∙ sym (ap (λ l. map place held ++ l) (first_above levels step n (place x) lt up)) ∙ was

  pub above_all : {N : Type 0} (place : N → ℕ) (levels step n : ℕ) (held : List N) (total : List ℕ) → step < levels → tree_parent f n ≡ None
      → map place held ++ elements f (ancestors_within (levels - step) f n) ≡ total → map place held ≡ total
  above_all place levels step n held total lt none was =
      let k : levels - step ≡ suc (levels - (step + 1)) = omega (arith, lt) in
      sym (append-nil (map place held))
      ∙ sym (ap (λ l. map place held ++ l) (ap (λ m. elements f (ancestors_within m f n)) k ∙ ap (λ o. elements f (option_map_or (λ q. q ∷ ancestors_within (levels - (step + 1)) f q) o [])) none))
      ∙ was
