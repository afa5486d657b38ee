-- Tests of equality of values are tests of equality of their texts.
use Rattle.std.proofs.Common.{◌≡◌, Bool, List, [], ◌∷◌, map, Option, Some, None, refl, ap}
use Rattle.std.specs.Bool.{Decides}
use Rattle.std.specs.Cmp.Lexicographic.{pointwise}
use Rattle.std.specs.Option.{option_eq, option_map}
use Rattle.std.proofs.lemmas.Bool.Decides.{Decides-and, Decides-like}

module _ {A T : Type 0} {eq : A → A → Bool} (text : A → T) (decides : (x y : A) → Decides (eq x y) (text x ≡ text y)) where
  pub lists_decide : (xs ys : List A) → Decides (pointwise eq xs ys) (map text xs ≡ map text ys)
  lists_decide [] [] = (λ h. refl, λ e. refl)
  lists_decide [] (y ∷ ys) = (λ h. cc, λ e. cc)
  lists_decide (x ∷ xs) [] = (λ h. cc, λ e. cc)
  lists_decide (x ∷ xs) (y ∷ ys) =
      Decides-like _ (λ p i. p.0 i ∷ p.1 i) (λ e. (cc, cc)) (Decides-and _ _ (decides x y) (lists_decide xs ys))

  pub options_decide : (x y : Option A) → Decides (option_eq eq x y) (option_map text x ≡ option_map text y)
  options_decide None None = (λ h. refl, λ e. refl)
  options_decide None (Some y) = (λ h. cc, λ e. cc)
  options_decide (Some x) None = (λ h. cc, λ e. cc)
  options_decide (Some x) (Some y) = Decides-like _ (λ e. ap Some e) (λ e. cc) (decides x y)
