-- Ancestors after nodes were given or lost parents.
use Rattle.std.proofs.Common.{◌≡◌, ◌∙◌, ◌⊎◌, ℕ, Bool, true, false, cond, inl, inr, refl, sym}
use Rattle.std.specs.Prelude.{Option, None, Some}
use Rattle.h5_interface.specs.Ancestors.{AtOrAbove, Further, IsAncestor, Parent}

pub ancestor_trans : (up : ℕ → Option ℕ) (a b c : ℕ) → IsAncestor up a b → IsAncestor up b c → IsAncestor up a c
ancestor_trans up a b c h (Parent e) = Further b h e
ancestor_trans up a b c h (Further p k e) = Further p (ancestor_trans up a b p h k) e

pub at_or_above_trans : (up : ℕ → Option ℕ) (a b c : ℕ) → AtOrAbove up a b → AtOrAbove up b c → AtOrAbove up a c
at_or_above_trans up a b c h (inl e) = rw (← e) h
at_or_above_trans up a b c (inl e) (inr k) = inr (rw e k)
at_or_above_trans up a b c (inr h) (inr k) = inr (ancestor_trans up a b c h k)

-- if each parent in one forest is a parent in the other, each ancestor is an ancestor
pub ancestor_fewer : (up down : ℕ → Option ℕ) → ((n p : ℕ) → down n ≡ Some p → up n ≡ Some p) → (a n : ℕ) → IsAncestor down a n → IsAncestor up a n
ancestor_fewer up down k a n (Parent e) = Parent (k n a e)
ancestor_fewer up down k a n (Further p h e) = Further p (ancestor_fewer up down k a p h) (k n p e)

-- a node without a parent has no ancestor
pub no_ancestor : (up : ℕ → Option ℕ) (a n : ℕ) → up n ≡ None → ¬ (IsAncestor up a n)
no_ancestor up a n e (Parent w) = let v : None ≡ Some a = sym e ∙ w in cc
no_ancestor up a n e (Further p h w) = let v : None ≡ Some p = sym e ∙ w in cc

-- the chosen nodes get the parent p, and all others keep their parent
abbrev pub hung : (ℕ → Option ℕ) → (ℕ → Bool) → ℕ → ℕ → Option ℕ
hung up chosen p n = cond (chosen n) (Some p) (up n)

-- a new ancestor is an old one, or comes by a chosen node: at or above p, and the chosen node is at or above the node
abbrev pub ComesBy : (ℕ → Option ℕ) → (ℕ → Bool) → ℕ → ℕ → ℕ → Type 0
ComesBy up chosen p a n = IsAncestor up a n ⊎ ((c : ℕ) × (chosen c ≡ true) × AtOrAbove up a p × AtOrAbove up c n)

some_inj : (a b : ℕ) → Some a ≡ Some b → a ≡ b
some_inj a b e = cc

at_or_above_further : (up : ℕ → Option ℕ) (c p n : ℕ) → AtOrAbove up c p → up n ≡ Some p → AtOrAbove up c n
at_or_above_further up c p n (inl e) h = inr (Parent (rw e h))
at_or_above_further up c p n (inr k) h = inr (Further p k h)

comes_first : (up : ℕ → Option ℕ) (chosen : ℕ → Bool) (p a n : ℕ) (b : Bool) → chosen n ≡ b → cond b (Some p) (up n) ≡ Some a → ComesBy up chosen p a n
comes_first up chosen p a n true m e = inr (n, m, inl (sym (some_inj p a e)), inl refl)
comes_first up chosen p a n false m e = inl (Parent e)

comes_further : (up : ℕ → Option ℕ) (chosen : ℕ → Bool) (p a q n : ℕ) (b : Bool) → chosen n ≡ b → ComesBy up chosen p a q → cond b (Some p) (up n) ≡ Some q → ComesBy up chosen p a n
comes_further up chosen p a q n true m (inl h) e = inr (n, m, inr (rw (some_inj p q e) h), inl refl)
comes_further up chosen p a q n true m (inr k) e = inr (n, m, k.2, inl refl)
comes_further up chosen p a q n false m (inl h) e = inl (Further q h e)
comes_further up chosen p a q n false m (inr k) e = inr (k.0, k.1, k.2, at_or_above_further up k.0 q n k.3 e)

-- the ancestors after nodes were given a parent
pub ancestor_after : (up : ℕ → Option ℕ) (chosen : ℕ → Bool) (p a n : ℕ) → IsAncestor (hung up chosen p) a n → ComesBy up chosen p a n
ancestor_after up chosen p a n (Parent e) = comes_first up chosen p a n (chosen n) refl e
ancestor_after up chosen p a n (Further q h e) = comes_further up chosen p a q n (chosen n) refl (ancestor_after up chosen p a q h) e

-- nodes may be put below a node that is not one of them and not below any of them
pub acyclic_after : (up : ℕ → Option ℕ) (chosen : ℕ → Bool) (p : ℕ) → ((n : ℕ) → ¬ (IsAncestor up n n)) → ((c : ℕ) → chosen c ≡ true → ¬ (AtOrAbove up c p)) → (n : ℕ) → ¬ (IsAncestor (hung up chosen p) n n)
acyclic_after up chosen p old apart n h =
    elim (ancestor_after up chosen p n n h) [
      | inl k ↦ old n k
      | inr k ↦ apart k.0 k.1 (at_or_above_trans up k.0 n p k.3 k.2)
    ]
